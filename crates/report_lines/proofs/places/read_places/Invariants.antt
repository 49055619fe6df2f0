use Rattle.std.proofs.Common.{◌≡◌, length}
use Rattle.fab_text.specs.Line.{words_of}
use Rattle.report_lines.specs.Reading.{places_said, after_places}
use Rattle.report_lines.proofs.places.read_places.Given as goal

abbrev pub invariant-words : goal.invariant-words
invariant-words l = places_said (words_of l.initial.left) ≡ after_places l.places.items (places_said (words_of l.left))

abbrev pub decreases-words : goal.decreases-words
decreases-words l = length (words_of l.left)
