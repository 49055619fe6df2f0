use Rattle.std.proofs.Common.{◌<◌, ℕ}
use Rattle.map_defs.specs.Orientation.{order_of}
use Rattle.route_calc.specs.Lowering.{IsNumbered}
use Rattle.route_calc.proofs.numbering.are_numbered.Given as goal

abbrev pub invariant-loop-v : goal.invariant-loop-v
invariant-loop-v l = (v : ℕ) → v < l.v → IsNumbered l.fn.m (order_of l.fn.m) v
