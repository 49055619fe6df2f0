use Rattle.std.proofs.Common.{◌≡◌, length}
use Rattle.fab_text.specs.Line.{words_of}
use Rattle.report_lines.specs.Reading.{both_said, after_sends}
use Rattle.report_lines.proofs.places.read_both.Given as goal

abbrev pub invariant-words : goal.invariant-words
invariant-words l = both_said (words_of l.initial.left) ≡ after_sends l.sends.items (both_said (words_of l.left))

abbrev pub decreases-words : goal.decreases-words
decreases-words l = length (words_of l.left)
