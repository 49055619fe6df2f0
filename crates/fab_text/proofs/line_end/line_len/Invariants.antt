use Rattle.std.proofs.Common.{◌≡◌, ◌≤◌, ◌+◌, ◌-◌, length, drop}
use Rattle.std.specs.List.{position_or_len}
use Rattle.fab_text.specs.Line.{is_line_end}
use Rattle.fab_text.proofs.line_end.line_len.Given as goal

abbrev pub invariant-passing : goal.invariant-passing
invariant-passing l = record {
  within : l.passed ≤ length l.text;
  rest : position_or_len is_line_end l.text ≡ l.passed + position_or_len is_line_end (drop l.passed l.text);
}

abbrev pub decreases-passing : goal.decreases-passing
decreases-passing l = length l.text - l.passed
