use Rattle.std.proofs.Common.{◌∙◌, ◌∷◌, [], ap, codes, decimal}
use Rattle.std.proofs.lemmas.Result.{on_ok_weaker}
use Rattle.fab_text.specs.Written.{spaced}
use Rattle.net_defs.specs.Network.{Network}
use Rattle.world_defs.specs.Node.{port_at}
use Rattle.world_defs.specs.World.{fabric_of, node_at}
use Rattle.line_table.specs.Texts.{host_name}
use Rattle.world_commands.proofs.Calls.{places_line}
use Rattle.world_commands.proofs.places.print_places.Goals as goal

pub returns : goal.returns
returns c =
    let w = c.args.w.now in
    let at = c.args.at in
    on_ok_weaker c.follow-2.result
    (places_line (fabric_of w) at c.args.sends c.args.recvs (port_at (node_at w at.host) at.port) c.begin_tokens.new.self c.put_places.new.printed c.follow.new.self c.put_places-2.new.printed c.follow-2.new.self
    (c.in_ok-begin_tokens.ensures ∙ ap (λ (n : Network). record { text = spaced (codes "tokens" ∷ host_name n at.host ∷ decimal at.port ∷ codes "send" ∷ []); figures = [] }) c.fabric.ensures)
    c.in_ok-put_places.ensures c.in_ok-follow.ensures c.in_ok-put_places-2.ensures)
    c.follow-2.ensures
