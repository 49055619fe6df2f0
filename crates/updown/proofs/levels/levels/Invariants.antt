use Rattle.std.proofs.Common.{◌≡◌, ◌<◌, length, get_or}
use Rattle.journal_defs.specs.Counting.{total}
use Rattle.map_defs.specs.Orientation.{root, level}
use Rattle.updown.proofs.Lowered.{IsAbove}
use Rattle.updown.proofs.levels.levels.Given as goal

abbrev pub invariant-lower : goal.invariant-lower
invariant-lower l = record {
  long : length l.levels.items ≡ length l.fn.m.vertices;
  above : IsAbove (level l.fn.m) l.levels.items;
  root_zero : 0 < length l.fn.m.vertices → get_or l.levels.items (root l.fn.m) 0 ≡ 0;
}

abbrev pub decreases-lower : goal.decreases-lower
decreases-lower l = total l.levels.items
