use Rattle.std.proofs.Common.{◌≡◌, map}
use Rattle.journal_defs.specs.Counting.{numbers_below}
use Rattle.map_defs.specs.Orientation.{order_of}
use Rattle.route_calc.specs.Exits.{exits_of}
use Rattle.route_calc.proofs.exits.all_exits.Given as goal

abbrev pub invariant-loop-v : goal.invariant-loop-v
invariant-loop-v l = l.exits.items ≡ map (exits_of l.fn.m (order_of l.fn.m)) (numbers_below l.v)
