use Rattle.std.proofs.Common.{◌≡◌, ◌+◌, length, take}
use Rattle.fab_text.specs.Line.{words_of}
use Rattle.run_defs.specs.Script.{turns_of}
use Rattle.fab_script.specs.LineLists.{behind}
use Rattle.fab_script.proofs.walk_line.read_turns.Given as goal

abbrev pub invariant-words : goal.invariant-words
invariant-words l = record {
  same : turns_of (words_of l.initial.left) ≡ behind (take l.count l.turns) (turns_of (words_of l.left));
  room : length l.turns ≡ length l.initial.turns;
  counted : l.count + length (words_of l.left) ≡ length (words_of l.initial.left);
}

abbrev pub decreases-words : goal.decreases-words
decreases-words l = length (words_of l.left)
