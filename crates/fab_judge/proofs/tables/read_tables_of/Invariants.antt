use Rattle.std.proofs.Common.{◌≤◌, drop}
use Rattle.judge_defs.specs.Form.{table_lines}
use Rattle.fab_judge.specs.Reading.{HasRead}
use Rattle.fab_judge.proofs.TableLines.{AreCounted}
use Rattle.fab_judge.proofs.tables.read_tables_of.Given as goal

abbrev pub invariant-lines : goal.invariant-lines
invariant-lines l = record {
  tables : AreCounted (table_lines l.hosts l.initial.reader.past l.f l.initial.reader.left)
      (table_lines (drop l.due-index l.hosts) l.initial.reader.past l.f l.reader.left) l.active;
  low : l.active ≤ l.due-index;
  read : HasRead l.initial.reader l.reader 0;
}
