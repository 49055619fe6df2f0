use Rattle.std.proofs.Common.{◌≡◌, ◌≤◌, ◌+◌, ◌*◌, ◌++◌, ◌∷◌, length, take}
use Rattle.std.specs.Prelude.{flat_map}
use Rattle.line_table.specs.Texts.{turn_text}
use Rattle.fab_report.proofs.route.put_turns.Given as goal

abbrev pub invariant-loop-turn : goal.invariant-loop-turn
invariant-loop-turn l = record {
  room : l.end + 4 * length l.turns ≤ length l.room + 4 * l.turn-index;
  size : length l.room ≡ length l.initial.room;
  bytes : take l.end l.room ≡ take l.at l.initial.room ++ flat_map (λ t. 32 ∷ turn_text t) (take l.turn-index l.turns);
}
