use Rattle.std.proofs.Common.{◌≡◌, false}
use Rattle.map_defs.specs.Orientation.{order_of}
use Rattle.route_calc.specs.Lowering.{IsStep, AreLowest, AreNumbered}
use Rattle.route_calc.proofs.distances.lower_all.Given as goal

abbrev pub invariant-loop-k : goal.invariant-loop-k
invariant-loop-k l = record {
  step : IsStep l.fn.m (order_of l.fn.m) l.initial.far l.far l.lowers;
  settled : l.lowers ≡ false → AreLowest l.fn.m (order_of l.fn.m) l.far l.k;
  swept : AreNumbered l.fn.m (order_of l.fn.m) → AreLowest l.fn.m (order_of l.fn.m) l.far l.k;
}
