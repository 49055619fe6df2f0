use Rattle.map_defs.specs.Orientation.{order_of}
use Rattle.route_calc.proofs.Gathered.{Gathered}
use Rattle.route_calc.proofs.pairs.all_ways.Given as goal

abbrev pub invariant-loop-a : goal.invariant-loop-a
invariant-loop-a l = Gathered l.fn.m (order_of l.fn.m) l.ways.items l.a
