use Rattle.std.proofs.Common.{◌≡◌, ◌<◌, length}
use Rattle.fab_text.specs.Line.{lines_left}
use Rattle.map_canon.specs.Reading.{map_until, part_of, sound_from}
use Rattle.map_canon.proofs.reading.read_map_part.Given as goal

abbrev pub invariant-lines : goal.invariant-lines
invariant-lines l = record {
  same : map_until part_of l.past l.f l.initial.map (lines_left l.initial.left) ≡ map_until part_of l.past l.f l.map (lines_left l.left);
  some_sound : 0 < length (sound_from l.f l.map (lines_left l.left)) → 0 < length (sound_from l.f l.initial.map (lines_left l.initial.left));
}

abbrev pub decreases-lines : goal.decreases-lines
decreases-lines l = length l.left.text
