use Rattle.std.proofs.Common.{◌≡◌, ℕ, ◌+◌, length, None, get_or}
use Rattle.port_align.proofs.table.add_places.Given as goal

abbrev pub invariant-loop-place : goal.invariant-loop-place
invariant-loop-place l = record {
  more : length l.rows.items ≡ length l.initial.rows.items + l.place;
  same : (k : ℕ) → get_or l.rows.items k None ≡ get_or l.initial.rows.items k None;
  capacity : l.rows.room ≡ l.initial.rows.room;
}
