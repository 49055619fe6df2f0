use Rattle.std.proofs.Common.{◌≡◌, ◌<◌, ◌≤◌, ◌+◌, length}
use Rattle.fab_text.specs.Line.{line_count, lines_left}
use Rattle.fabric_file.specs.Reading.{fabric_from, sound_from}
use Rattle.fabric_file.proofs.reading.read_fabric.Given as goal

abbrev pub invariant-lines : goal.invariant-lines
invariant-lines l = record {
  same : fabric_from (length l.text) (line_count l.text + 1) l.initial.fabric (lines_left l.initial.left) ≡ fabric_from (length l.text) (line_count l.text + 1) l.fabric (lines_left l.left);
  some_sound : 0 < length (sound_from l.fabric (lines_left l.left)) → 0 < length (sound_from l.initial.fabric (lines_left l.initial.left));
  inside : length l.left.text ≤ length l.text;
}

abbrev pub decreases-lines : goal.decreases-lines
decreases-lines l = length l.left.text
