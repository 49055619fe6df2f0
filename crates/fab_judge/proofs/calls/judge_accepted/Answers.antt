use Rattle.std.proofs.Common.{sym, ap}
use Rattle.std.proofs.lemmas.Result.{IfOk-weaker, on_err_weaker}
use Rattle.report_lines.specs.declared.line.ReportLine.TheVariants.{Accepted}
use Rattle.answer_defs.specs.Answer.{accepted_told}
use Rattle.fab_judge.proofs.Telling.{untold-judged}
use Rattle.fab_judge.proofs.calls.judge_accepted.Goals as goal

pub returns-in-Some-clause-judges : goal.returns-in-Some-clause-judges
returns-in-Some-clause-judges c = IfOk-weaker c.accept.result _ _ (λ why judged before h. judged before c.args.command.now c.args.port h (sym c.in-Some.ensures)) c.accept.ensures.judges

pub returns-in-Some-clause-memory : goal.returns-in-Some-clause-memory
returns-in-Some-clause-memory c = on_err_weaker c.accept.result (λ right before h. right before c.args.command.now c.args.port h (sym c.in-Some.ensures)) c.accept.ensures.memory

pub returns-in-None-clause-judges : goal.returns-in-None-clause-judges
returns-in-None-clause-judges c = λ before h.
    untold-judged before c.args.command.now (Accepted c.args.port c.args.token) c.args.ledgers.now (ap (λ m. accepted_told m c.args.token) (sym c.in-None.ensures)) tt tt h
