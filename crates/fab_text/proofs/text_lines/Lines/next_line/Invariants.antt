use Rattle.std.proofs.Common.{◌≡◌, ◌≤◌, ◌+◌, length}
use Rattle.fab_text.specs.Line.{lines_left}
use Rattle.fab_text.proofs.text_lines.Lines.next_line.Given as goal

abbrev pub invariant-passing : goal.invariant-passing
invariant-passing l = record {
  left : lines_left (record { number = l.initial.self-inside.number; text = l.initial.self-inside.rest.now }) ≡ lines_left (record { number = l.self-inside.number; text = l.self-inside.rest.now });
  numbers : l.self-inside.number + length l.self-inside.rest.now ≤ 4294967291;
  shorter : length l.self-inside.rest.now ≤ length l.initial.self-inside.rest.now;
}

abbrev pub decreases-passing : goal.decreases-passing
decreases-passing l = length l.self-inside.rest.now
