use Rattle.std.proofs.Common.{◌≤◌, ◌-◌, None}
use Rattle.judge_defs.specs.Form.{rising_tables}
use Rattle.fab_judge.specs.Reading.{HasRead}
use Rattle.fab_judge.proofs.TableLines.{AreRisingTables}
use Rattle.fab_judge.proofs.tables.read_rising_tables.Given as goal

abbrev pub invariant-lines : goal.invariant-lines
invariant-lines l = record {
  tables : AreRisingTables (rising_tables l.count None l.initial.reader.past l.f l.initial.reader.left) l.before (l.count - l._read)
      l.initial.reader.past l.f l.reader.left l.active;
  low : l.active ≤ l._read;
  read : HasRead l.initial.reader l.reader 0;
}
