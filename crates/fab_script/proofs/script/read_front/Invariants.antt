use Rattle.std.proofs.Common.{◌≡◌, ◌<◌, ◌+◌, length}
use Rattle.fab_text.specs.Line.{line_count, lines_left}
use Rattle.fab_script.specs.Parts.{front_part, front_sound, part_after}
use Rattle.fab_script.proofs.script.read_front.Given as goal

abbrev pub invariant-lines : goal.invariant-lines
invariant-lines l = record {
  same : front_part l.every (l.past + line_count l.text) l.f (lines_left l.initial.left)
      ≡ part_after l.commands.items (front_part l.every (l.past + line_count l.text) l.f (lines_left l.left));
  some_sound : 0 < length (front_sound l.every l.f (lines_left l.left)) → 0 < length (front_sound l.every l.f (lines_left l.initial.left));
}

abbrev pub decreases-lines : goal.decreases-lines
decreases-lines l = length l.left.text
