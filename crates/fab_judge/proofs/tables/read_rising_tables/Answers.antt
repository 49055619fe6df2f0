use Rattle.std.proofs.Common.{◌≡◌, subst, refl, Ok, Err, None, arith}
use Rattle.std.proofs.lemmas.Result.{err_from_is_err_and}
use Rattle.judge_defs.specs.Form.{next_due, rising_table_due, rising_tables}
use Rattle.fab_judge.specs.Reading.{Gives}
use Rattle.fab_judge.proofs.Steps.{read_none, read_more, read_fewer}
use Rattle.fab_judge.proofs.TableLines.{rising-begin, rising-more, rising-stopped, rising-end, active-below}
use Rattle.fab_judge.proofs.tables.read_rising_tables.Goals as goal

pub lines-init : goal.lines-init
lines-init c = record {
  tables = rising-begin c.args.count c.args.reader.now.past c.args.f.now c.args.reader.now.left;
  low = omega arith;
  read = read_none c.args.reader.now;
}

pub lines-preserved : goal.lines-preserved
lines-preserved c =
    let start = c.args.reader.now in
    let now = c.read_rising_table.new.reader in
    let said = subst (λ p. next_due (rising_table_due c.lines.before) p c.args.f.now c.lines.reader.left ≡ Ok (c.in_ok-table.table, now.left)) c.lines.invariant.read.past c.in_ok-table.ensures.said in
    record {
      tables = rising-more c.args.count c.lines._read start.past c.args.f.now c.lines.reader.left now.left
          (rising_tables c.args.count None start.past c.args.f.now start.left) c.lines.before _ c.lines.active c.more_active-active.result c.in_ok-table.table (omega arith) c.lines.invariant.tables said refl c.more_active-active.ensures;
      low = active-below c.lines.active c.more_active-active.result c.lines._read c.in_ok-table.table.1 c.lines.invariant.low c.more_active-active.ensures;
      read = read_fewer start now 1 0 (read_more start c.lines.reader now 0 1 c.lines.invariant.read c.in_ok-table.ensures.read) (omega arith);
    }

pub returns-in_err-table-clause-said : goal.returns-in_err-table-clause-said
returns-in_err-table-clause-said c =
    let start = c.args.reader.now in
    let now = c.read_rising_table.new.reader in
    let p = err_from_is_err_and c.from_residual.result c.from_residual.ensures.1 in
    rw (p.1, p.2)
    (rising-stopped c.args.count c.lines._read start.past c.args.f.now c.lines.reader.left now.left (rising_tables c.args.count None start.past c.args.f.now start.left) c.lines.before c.lines.active c.in_err-table.field-0.0 (omega arith) c.lines.invariant.tables
    (subst (λ p. Gives (next_due (rising_table_due c.lines.before) p c.args.f.now c.lines.reader.left) now.left (Err c.in_err-table.field-0.0)) c.lines.invariant.read.past c.in_err-table.ensures.said))

pub returns-clause-said : goal.returns-clause-said
returns-clause-said c =
    rising-end c.args.count c.lines._read c.args.reader.now.past c.args.f.now c.lines.reader.left (rising_tables c.args.count None c.args.reader.now.past c.args.f.now c.args.reader.now.left) c.lines.before c.lines.active
    (omega arith) c.lines.invariant.tables
