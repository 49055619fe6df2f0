use Rattle.std.proofs.Common.{◌≡◌, ◌+◌, length, take}
use Rattle.fab_text.specs.Line.{words_of}
use Rattle.report_lines.specs.Reading.{turns_said, after_turns}
use Rattle.report_lines.proofs.route_line.read_turns.Given as goal

abbrev pub invariant-words : goal.invariant-words
invariant-words l = record {
  same : turns_said (words_of l.initial.left) ≡ after_turns (take l.count l.turns) (turns_said (words_of l.left));
  room : length l.turns ≡ length l.initial.turns;
  counted : l.count + length (words_of l.left) ≡ length (words_of l.initial.left);
}

abbrev pub decreases-words : goal.decreases-words
decreases-words l = length (words_of l.left)
