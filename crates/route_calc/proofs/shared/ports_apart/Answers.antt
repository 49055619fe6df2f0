use Rattle.std.proofs.Common.{sym, ◌∙◌}
use Rattle.map_defs.specs.Orientation.{order_of}
use Rattle.route_calc.proofs.Least.{host_start}
use Rattle.route_calc.proofs.Starting.{start-turn}
use Rattle.route_calc.proofs.shared.ports_apart.Goals as goal

pub apart-requires-clause-first : goal.apart-requires-clause-first
apart-requires-clause-first c =
    let m = c.args.m.now in
    start-turn m (order_of m) (host_start c.args.first.now.vertex) c.in-Some.p c.vertices.ensures.is_map.is_map (sym c.requires.first.starts ∙ sym c.start.ensures ∙ c.in-Some.is)

pub apart-requires-clause-second : goal.apart-requires-clause-second
apart-requires-clause-second c =
    let m = c.args.m.now in
    start-turn m (order_of m) (host_start c.args.second.now.vertex) c.in-Some-start.q c.vertices.ensures.is_map.is_map (sym c.requires.second.starts ∙ sym c.start-in-Some.ensures ∙ c.in-Some-start.is)
