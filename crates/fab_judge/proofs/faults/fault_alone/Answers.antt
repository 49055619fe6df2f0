use Rattle.std.proofs.Common.{subst}
use Rattle.answer_defs.specs.Answer.{answered, Alone}
use Rattle.fab_judge.specs.Ledgers.{JudgesLine}
use Rattle.fab_judge.proofs.Judged.{alone-judged}
use Rattle.fab_judge.proofs.faults.fault_alone.Goals as goal

pub returns-in-Some-clause-judges : goal.returns-in-Some-clause-judges
returns-in-Some-clause-judges c = λ n before is.
    let t = answered c.args.command.now (Alone c.args.line.now) in
    let judges = c.in_ok-judged.ensures.judges before is.ledgers in
    alone-judged n before c.args.command.now c.args.line.now c.in-Some.why c.judge_line.new.ledgers
    (subst (λ o. JudgesLine before t o c.judge_line.new.ledgers) c.in-Some.is judges)
