use Rattle.std.proofs.Common.{Option, IfSome, ap, subst, ◌∙◌}
use Rattle.std.specs.Prelude.{option_copied}
use Rattle.map_defs.specs.Orientation.{order_of}
use Rattle.port_graph.specs.Routes.{walk_at}
use Rattle.std.specs.Prelude.{◌-◌, length, slice_get}
use Rattle.route_calc.specs.Hosts.{HostWays, AreWaysOf}
use Rattle.route_calc.proofs.Showing.{last-least}
use Rattle.route_calc.proofs.shared.shared_walk.Goals as goal

pub walk_beside-requires-clause-other : goal.walk_beside-requires-clause-other
walk_beside-requires-clause-other c =
    let m = c.args.m.now in
    subst (λ (o : Option HostWays). IfSome o (AreWaysOf m (order_of m))) (ap option_copied c.in-Some.is) c.requires.other

pub walk_beside-requires-clause-walk : goal.walk_beside-requires-clause-walk
walk_beside-requires-clause-walk c =
    let m = c.args.m.now in
    let rs = c.args.routes.now in
    last-least m (order_of m) c.args.from.now.host c.in-Some.other.now.host rs (option_copied c.last_walk-walk.result)
    (c.last_walk-walk.ensures ∙ (λ i. walk_at (slice_get rs (length rs - 1)) (c.host-sender.ensures i) (c.host-receiver.ensures i)))
    c.requires.last
