use Rattle.std.proofs.Common.{refl, sym, subst}
use Rattle.port_ledgers.specs.Told.{Closed as ToldClosed}
use Rattle.report_lines.specs.declared.line.ReportLine.TheVariants.{Closed}
use Rattle.answer_defs.specs.Answer.{Alone, answered, told}
use Rattle.fab_judge.specs.Ledgers.{LedgersState, AreLedgersOf, JudgesLine}
use Rattle.fab_judge.proofs.Telling.{token-tested}
use Rattle.fab_judge.proofs.ledgers.Ledgers.close.Goals as goal

pub returns : goal.returns
returns c = λ before cmd h.
    let old : LedgersState = record { messages = c.self.inside.messages; tokens = c.self.inside.tokens } in
    let now : LedgersState = record { messages = c.self.inside.messages; tokens = c.close.new.self } in
    let kept : AreLedgersOf before old = subst (AreLedgersOf before) (sym c.self.view_is) h in
    subst (λ why. JudgesLine before (answered cmd (Alone (Closed c.args.port c.args.count))) why now) (sym c.token_unless.ensures)
    (token-tested before cmd (Closed c.args.port c.args.count) (ToldClosed c.args.port c.args.count) c.close.result old now refl tt tt (λ k. refl) (λ k. refl) refl kept
    (c.close.ensures.right (told before) kept.held) (λ e. c.close.ensures.told e (told before) kept.held))
