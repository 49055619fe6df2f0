use Rattle.judge_defs.specs.Form.{table_due}
use Rattle.fab_judge.specs.Reading.{HasRead}
use Rattle.fab_judge.proofs.Next.{any-ok, due-either}
use Rattle.fab_judge.proofs.tables.read_table.Goals as goal

pub returns-in-Ok-clause-said : goal.returns-in-Ok-clause-said
returns-in-Ok-clause-said c =
    due-either (table_due c.args.due) c.args.reader.now.past c.args.f.now c.args.reader.now.left c.next_said.new.self.left c.in-Ok.number c.in-Ok.line c.table_due.result c.found.result c.in-Ok.ensures.said c.table_due.ensures c.found.ensures

pub returns-in-Ok-clause-read : goal.returns-in-Ok-clause-read
returns-in-Ok-clause-read c = any-ok c.found.result (HasRead c.args.reader.now c.next_said.new.self 1) c.in-Ok.ensures.read
