use Rattle.std.proofs.Common.{◌≡◌, ◌+◌, length}
use Rattle.fab_text.specs.Line.{words_of}
use Rattle.fab_script.proofs.walk_line.are_within.Given as goal

abbrev pub invariant-loop-taken : goal.invariant-loop-taken
invariant-loop-taken l = length (words_of l.initial.left) ≡ l._taken + length (words_of l.left)
