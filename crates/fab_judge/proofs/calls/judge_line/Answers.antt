use Rattle.std.proofs.Common.{sym, subst}
use Rattle.std.proofs.lemmas.Result.{on_err_weaker}
use Rattle.report_lines.specs.declared.line.ReportLine.{ReportLine}
use Rattle.answer_defs.specs.Answer.{Alone, answered}
use Rattle.fab_judge.specs.Ledgers.{IsRightLine}
use Rattle.fab_judge.proofs.calls.judge_line.Goals as goal

pub returns-in-Returned-clause-memory : goal.returns-in-Returned-clause-memory
returns-in-Returned-clause-memory c =
    on_err_weaker c.give_back.result
    (λ right before held. subst (λ (l : ReportLine). IsRightLine before (answered c.args.command.now (Alone l))) (sym c.in-Returned.is) (right before c.args.command.now held))
    c.give_back.ensures.memory

pub returns-in-Received-clause-memory : goal.returns-in-Received-clause-memory
returns-in-Received-clause-memory c =
    on_err_weaker c.receive.result
    (λ right before held. subst (λ (l : ReportLine). IsRightLine before (answered c.args.command.now (Alone l))) (sym c.in-Received.is) (right before c.args.command.now held))
    c.receive.ensures.memory
