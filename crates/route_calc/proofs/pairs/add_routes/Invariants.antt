use Rattle.map_defs.specs.Orientation.{order_of}
use Rattle.route_calc.specs.Adding.{AddsRoutes}
use Rattle.route_calc.proofs.pairs.add_routes.Given as goal

abbrev pub invariant-loop-k : goal.invariant-loop-k
invariant-loop-k l = AddsRoutes l.fn.m (order_of l.fn.m) l.fn.from.host l.ways l.k l.initial.set l.set
