use Rattle.std.proofs.Common.{Some, length}
use Rattle.judge_defs.specs.Form.{broken_lines}
use Rattle.fab_judge.specs.Reading.{HasRead}
use Rattle.fab_judge.proofs.Blocks.{ArePassed}
use Rattle.fab_judge.proofs.broken.read_broken.Given as goal

abbrev pub invariant-lines : goal.invariant-lines
invariant-lines l = record {
  passed : ArePassed (broken_lines (Some l.fn.first) l.initial.reader.past l.f l.initial.reader.left)
      (broken_lines (Some l.before) l.initial.reader.past l.f l.reader.left);
  read : HasRead l.initial.reader l.reader 0;
}

abbrev pub decreases-lines : goal.decreases-lines
decreases-lines l = length l.reader.left
