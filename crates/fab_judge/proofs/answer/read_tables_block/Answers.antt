use Rattle.std.proofs.Common.{◌≡◌, true, nat_le, arith}
use Rattle.std.proofs.lemmas.Bool.Decides.{nat_tests}
use Rattle.judge_defs.specs.Form.{tables_of}
use Rattle.fab_judge.proofs.AnswerLines.{tables-read}
use Rattle.fab_judge.proofs.answer.read_tables_block.Goals as goal

pub returns-then-acked-active-clause-said : goal.returns-then-acked-active-clause-said
returns-then-acked-active-clause-said c =
    let r = c.args.reader.now in
    let tables = tables_of c.args.number c.args.count c.args.past.now.routed r.past c.args.f.now r.left in
    let most = c.if-acked-active.true in
    let test : nat_le c.args.acked c.in-Ok.active ≡ true = grind (arith, nat_tests) in
    tables-read c.args.number c.args.acked c.in-Ok.active tables c.read_tables.new.reader.left c.in-Ok.ensures.said test
