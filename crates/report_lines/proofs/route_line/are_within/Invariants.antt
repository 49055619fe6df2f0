use Rattle.std.proofs.Common.{◌≡◌, ◌+◌, length}
use Rattle.fab_text.specs.Line.{words_of}
use Rattle.report_lines.proofs.route_line.are_within.Given as goal

abbrev pub invariant-loop-taken : goal.invariant-loop-taken
invariant-loop-taken l = length (words_of l.initial.left) ≡ l._taken + length (words_of l.left)
