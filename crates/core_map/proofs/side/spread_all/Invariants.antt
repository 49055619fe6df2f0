use Rattle.std.proofs.Common.{◌≡◌, drop, length, ◌||◌}
use Rattle.core_map.specs.Marks.{spread_along, spreads_along}
use Rattle.core_map.proofs.side.spread_all.Given as goal

abbrev pub invariant-loop-c : goal.invariant-loop-c
invariant-loop-c l = record {
  long : length l.marks ≡ length l.initial.marks;
  value : spread_along (drop l.c-index l.cables) l.marks ≡ spread_along l.cables l.initial.marks;
  told : (l.spreads || spreads_along (drop l.c-index l.cables) l.marks) ≡ spreads_along l.cables l.initial.marks;
}
