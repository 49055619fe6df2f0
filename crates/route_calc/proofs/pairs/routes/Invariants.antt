use Rattle.map_defs.specs.Orientation.{order_of}
use Rattle.route_calc.proofs.Made.{Made}
use Rattle.route_calc.proofs.pairs.routes.Given as goal

abbrev pub invariant-loop-from : goal.invariant-loop-from
invariant-loop-from l = Made l.fn.m (order_of l.fn.m) l.from-items l.from-index l.set
