use Rattle.std.proofs.Common.{◌≡◌, get_or, subst, Ok, Err, arith}
use Rattle.std.proofs.lemmas.Result.{err_from_is_err_and}
use Rattle.judge_defs.specs.Form.{next_due, table_due, table_lines}
use Rattle.fab_judge.specs.Reading.{Gives}
use Rattle.fab_judge.proofs.Steps.{read_none, read_more, read_fewer}
use Rattle.fab_judge.proofs.TableLines.{counted-none, tables-more, tables-stopped, tables-end, active-below}
use Rattle.fab_judge.proofs.tables.read_tables_of.Goals as goal

pub lines-init : goal.lines-init
lines-init c = record {
  tables = counted-none (table_lines c.args.hosts.now c.args.reader.now.past c.args.f.now c.args.reader.now.left);
  low = omega arith;
  read = read_none c.args.reader.now;
}

pub lines-preserved : goal.lines-preserved
lines-preserved c =
    let start = c.args.reader.now in
    let hosts = c.args.hosts.now in
    let i = c.lines.due-index in
    let said = subst (λ p. next_due (table_due (get_or hosts i 0)) p c.args.f.now c.lines.reader.left ≡ Ok (c.in_ok-table.table, c.read_table.new.reader.left)) c.lines.invariant.read.past c.in_ok-table.ensures.said in
    record {
      tables = tables-more hosts start.past i c.args.f.now c.lines.reader.left c.read_table.new.reader.left
          (table_lines hosts start.past c.args.f.now start.left) c.lines.active c.more_active-active.result c.in_ok-table.table (omega arith) c.lines.invariant.tables said c.more_active-active.ensures;
      low = active-below c.lines.active c.more_active-active.result i c.in_ok-table.table.1 c.lines.invariant.low c.more_active-active.ensures;
      read = read_fewer start c.read_table.new.reader 1 0 (read_more start c.lines.reader c.read_table.new.reader 0 1 c.lines.invariant.read c.in_ok-table.ensures.read) (omega arith);
    }

pub returns-in_err-table-clause-said : goal.returns-in_err-table-clause-said
returns-in_err-table-clause-said c =
    let start = c.args.reader.now in
    let hosts = c.args.hosts.now in
    let i = c.lines.due-index in
    let p = err_from_is_err_and c.from_residual.result c.from_residual.ensures.1 in
    rw (p.1, p.2)
    (tables-stopped hosts start.past i c.args.f.now c.lines.reader.left c.read_table.new.reader.left (table_lines hosts start.past c.args.f.now start.left) c.lines.active c.in_err-table.field-0.0 (omega arith) c.lines.invariant.tables
    (subst (λ p. Gives (next_due (table_due (get_or hosts i 0)) p c.args.f.now c.lines.reader.left) c.read_table.new.reader.left (Err c.in_err-table.field-0.0)) c.lines.invariant.read.past c.in_err-table.ensures.said))

pub returns-clause-said : goal.returns-clause-said
returns-clause-said c =
    tables-end c.args.hosts.now c.args.reader.now.past c.lines.due-index c.args.f.now c.lines.reader.left (table_lines c.args.hosts.now c.args.reader.now.past c.args.f.now c.args.reader.now.left) c.lines.active
    (omega arith) c.lines.invariant.tables
