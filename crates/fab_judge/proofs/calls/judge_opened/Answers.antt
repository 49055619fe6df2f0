use Rattle.std.proofs.Common.{sym, ap}
use Rattle.report_lines.specs.declared.line.ReportLine.TheVariants.{Opened}
use Rattle.answer_defs.specs.Answer.{opened_told}
use Rattle.fab_judge.proofs.Telling.{untold-judged}
use Rattle.fab_judge.proofs.Errors.{on-any}
use Rattle.fab_judge.proofs.calls.judge_opened.Goals as goal

pub returns-in_ok-open-in-Some-clause-judges : goal.returns-in_ok-open-in-Some-clause-judges
returns-in_ok-open-in-Some-clause-judges c = λ before h. c.in_ok-open-in-Some.ensures.told before c.args.command.now h (sym c.in-Some.ensures)

pub returns-in-None-clause-judges : goal.returns-in-None-clause-judges
returns-in-None-clause-judges c = λ before h.
    untold-judged before c.args.command.now (Opened c.args.port) c.args.ledgers.now (ap (opened_told c.args.port) (sym c.in-None.ensures)) tt tt h

pub returns-in_err-open-in-Some-clause-memory : goal.returns-in_err-open-in-Some-clause-memory
returns-in_err-open-in-Some-clause-memory c = on-any c.from_residual.result _ (λ before h. c.in_err-open-in-Some.ensures.memory before c.args.command.now h (sym c.in-Some.ensures))
