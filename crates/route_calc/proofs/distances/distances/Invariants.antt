use Rattle.std.proofs.Common.{◌≡◌, ◌*◌, length}
use Rattle.journal_defs.specs.Counting.{total}
use Rattle.map_defs.specs.Orientation.{order_of}
use Rattle.route_calc.specs.Lowering.{AreSound}
use Rattle.route_calc.proofs.distances.distances.Given as goal

abbrev pub invariant-lower : goal.invariant-lower
invariant-lower l = record {
  long : length l.far.items ≡ 2 * length l.fn.m.vertices;
  sound : AreSound l.fn.m (order_of l.fn.m) l.fn.to l.far.items;
}

abbrev pub decreases-lower : goal.decreases-lower
decreases-lower l = total l.far.items
