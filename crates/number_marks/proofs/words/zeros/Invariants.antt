use Rattle.std.proofs.Common.{◌≡◌, ◌≤◌, ◌-◌, replicate, length}
use Rattle.number_marks.proofs.words.zeros.Given as goal

abbrev pub invariant-loop-zeros : goal.invariant-loop-zeros
invariant-loop-zeros l = (l.zeros.items ≡ replicate (length l.zeros.items) 0) × (length l.zeros.items ≤ l.words)

abbrev pub decreases-loop-zeros : goal.decreases-loop-zeros
decreases-loop-zeros l = l.words - length l.zeros.items
