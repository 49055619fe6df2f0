use Rattle.std.proofs.Common.{◌*◌}
use Rattle.number_marks.specs.Marks.{IsBare}
use Rattle.number_marks.proofs.words.first_from.Given as goal

abbrev pub invariant-loop-at : goal.invariant-loop-at
invariant-loop-at l = IsBare l.words (64 * l.start) (64 * l.at)
