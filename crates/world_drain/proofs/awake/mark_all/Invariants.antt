-- Those at the places before are marked.
use Rattle.std.proofs.Common.{◌≡◌, ◌<◌, ◌≤◌, ℕ, length}
use Rattle.std.specs.Prelude.{slice_index_or}
use Rattle.number_marks.specs.Marks.{mark_at}
use Rattle.world_drain.proofs.awake.mark_all.Given as goal

abbrev pub invariant-loop-at : goal.invariant-loop-at
invariant-loop-at l = record {
  size : length l.marks.items ≡ length l.fn.marks.items;
  kept : (c : ℕ) → mark_at l.marks.items c ≡ 0 → mark_at l.fn.marks.items c ≡ 0;
  marked : (i : ℕ) → l.first ≤ i → i < l.at → mark_at l.marks.items (slice_index_or l.places.items i 0) ≡ 1;
}
