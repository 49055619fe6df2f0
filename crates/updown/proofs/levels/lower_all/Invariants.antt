use Rattle.std.proofs.Common.{◌≡◌, drop, length, ◌||◌}
use Rattle.updown.specs.Lowering.{lowered_along, lowers_along}
use Rattle.updown.proofs.levels.lower_all.Given as goal

abbrev pub invariant-loop-c : goal.invariant-loop-c
invariant-loop-c l = record {
  long : length l.levels ≡ length l.initial.levels;
  value : lowered_along (drop l.c-index l.cables) l.levels ≡ lowered_along l.cables l.initial.levels;
  told : (l.lowers || lowers_along (drop l.c-index l.cables) l.levels) ≡ lowers_along l.cables l.initial.levels;
}
