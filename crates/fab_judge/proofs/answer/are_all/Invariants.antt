-- The marks from this one on are all true exactly where all are.
use Rattle.std.proofs.Common.{◌≡◌, drop}
use Rattle.std.specs.List.{list_all}
use Rattle.fab_judge.proofs.answer.are_all.Given as goal

abbrev pub invariant-loop-mark : goal.invariant-loop-mark
invariant-loop-mark l = list_all (λ m. m) (drop l.mark-index l.marks) ≡ list_all (λ m. m) l.marks
