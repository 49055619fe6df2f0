use Rattle.world_defs.specs.Node.{port_at}
use Rattle.world_defs.specs.World.{node_at}
use Rattle.host_ports.specs.Held.{place_at}
use Rattle.world_commands.proofs.Calls.{places_more, places_none}
use Rattle.world_commands.proofs.places.put_places.Goals as goal

pub loop-number-init : goal.loop-number-init
loop-number-init c = places_none c.args.printed.now

pub loop-number-preserved : goal.loop-number-preserved
loop-number-preserved c =
    let place_of = place_at (port_at (node_at c.args.w.now c.args.at.host) c.args.at.port) c.args.send in
    places_more c.loop-number.number place_of c.token_place-place.result c.args.printed.now c.loop-number.printed c.put_place.new.self
    c.token_place-place.ensures c.loop-number.invariant c.in_ok-put_place.ensures
