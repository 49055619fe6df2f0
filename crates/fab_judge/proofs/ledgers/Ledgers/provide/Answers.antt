use Rattle.std.proofs.Common.{refl, sym, subst}
use Rattle.port_ledgers.specs.Told.{Provided as ToldProvided}
use Rattle.report_lines.specs.declared.line.ReportLine.TheVariants.{Provided}
use Rattle.answer_defs.specs.Answer.{Alone, answered, told}
use Rattle.fab_judge.specs.Ledgers.{LedgersState, AreLedgersOf, JudgesLine}
use Rattle.fab_judge.proofs.Telling.{token-tested}
use Rattle.fab_judge.proofs.ledgers.Ledgers.provide.Goals as goal

pub returns : goal.returns
returns c = λ before cmd h.
    let old : LedgersState = record { messages = c.self.inside.messages; tokens = c.self.inside.tokens } in
    let now : LedgersState = record { messages = c.self.inside.messages; tokens = c.provide.new.self } in
    let kept : AreLedgersOf before old = subst (AreLedgersOf before) (sym c.self.view_is) h in
    subst (λ why. JudgesLine before (answered cmd (Alone (Provided c.args.port c.args.token))) why now) (sym c.token_unless.ensures)
    (token-tested before cmd (Provided c.args.port c.args.token) (ToldProvided c.args.port c.args.token) c.provide.result old now refl tt tt (λ k. refl) (λ k. refl) refl kept
    (c.provide.ensures.right (told before) kept.held) (λ e. c.provide.ensures.told e (told before) kept.held))
