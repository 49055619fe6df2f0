use Rattle.std.proofs.Common.{◌≡◌, ◌<◌, ◌≤◌, ◌||◌, ℕ, length, get_or, false}
use Rattle.core_map.proofs.bridges.add_marks.Given as goal

abbrev pub invariant-loop-v : goal.invariant-loop-v
invariant-loop-v l = record {
  long : length l.marks ≡ length l.initial.marks;
  before : (u : ℕ) → u < l.v → get_or l.marks u false ≡ (get_or l.initial.marks u false || get_or l.more u false);
  after : (u : ℕ) → l.v ≤ u → get_or l.marks u false ≡ get_or l.initial.marks u false;
}
