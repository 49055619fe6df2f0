use Rattle.std.proofs.Common.{◌≡◌, None, length}
use Rattle.judge_defs.specs.Form.{rank_lines}
use Rattle.fab_judge.specs.Reading.{HasRead}
use Rattle.fab_judge.specs.Shown.{map_in}
use Rattle.fab_judge.proofs.Blocks.{after}
use Rattle.fab_judge.proofs.ranks.read_ranks.Given as goal

abbrev pub invariant-lines : goal.invariant-lines
invariant-lines l = record {
  same : rank_lines (map_in l.shown) None l.initial.reader.past l.f l.initial.reader.left
      ≡ after l.ranks.items (rank_lines (map_in l.shown) l.before l.initial.reader.past l.f l.reader.left);
  read : HasRead l.initial.reader l.reader (length l.ranks.items);
}

abbrev pub decreases-lines : goal.decreases-lines
decreases-lines l = length l.reader.left
