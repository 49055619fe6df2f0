use Rattle.std.proofs.Common.{◌≡◌, length}
use Rattle.route_calc.specs.Firsts.{AreFirstBelow}
use Rattle.route_calc.proofs.firsts.firsts.Given as goal

abbrev pub invariant-loop-place : goal.invariant-loop-place
invariant-loop-place l = record {
  long : length l.firsts.items ≡ length l.far;
  each : AreFirstBelow l.exits l.far l.firsts.items l.place;
}
