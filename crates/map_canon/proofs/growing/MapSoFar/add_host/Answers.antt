use Rattle.map_canon.proofs.Indexed.{host-kept}
use Rattle.map_canon.proofs.growing.MapSoFar.add_host.Goals as goal

pub invariant_of-self : goal.invariant_of-self
invariant_of-self c =
    host-kept c.self.inside.map c.add_host.new.self c.self.inside.switches.items c.args.h c.add_host.result c.self.invariant c.add_host.ensures.added c.add_host.ensures.unchanged
