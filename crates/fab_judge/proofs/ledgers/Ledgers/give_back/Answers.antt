use Rattle.std.proofs.Common.{refl, sym, ap, subst, Ok}
use Rattle.port_ledgers.specs.Told.{Returned as ToldReturned}
use Rattle.report_lines.specs.declared.line.ReportLine.TheVariants.{Returned}
use Rattle.answer_defs.specs.Answer.{Alone, answered, told}
use Rattle.fab_judge.specs.Ledgers.{LedgersState, AreLedgersOf, JudgesLine}
use Rattle.fab_judge.proofs.Telling.{token-tested, one-line-right, silent-in-order}
use Rattle.fab_judge.proofs.Errors.{on-any}
use Rattle.fab_judge.proofs.ledgers.Ledgers.give_back.Goals as goal

pub returns-clause-judges : goal.returns-clause-judges
returns-clause-judges c = λ before cmd h.
    let old : LedgersState = record { messages = c.self.inside.messages; tokens = c.self.inside.tokens } in
    let now : LedgersState = record { messages = c.self.inside.messages; tokens = c.give_back.new.self } in
    let kept : AreLedgersOf before old = subst (AreLedgersOf before) (sym c.self.view_is) h in
    let is = c.in_ok-is_right.is_right in
    subst (λ why. JudgesLine before (answered cmd (Alone (Returned c.args.port c.args.token))) why now) (sym c.token_unless.ensures)
    (token-tested before cmd (Returned c.args.port c.args.token) (ToldReturned c.args.port c.args.token) is old now refl tt tt (λ k. refl) (λ k. refl) refl kept
    (c.in_ok-is_right.ensures.right (told before) kept.held) (λ e. c.in_ok-is_right.ensures.told (ap Ok e) (told before) kept.held))

pub returns-in_err-is_right-clause-memory : goal.returns-in_err-is_right-clause-memory
returns-in_err-is_right-clause-memory c =
    let old : LedgersState = record { messages = c.self.inside.messages; tokens = c.self.inside.tokens } in
    let thing = ToldReturned c.args.port c.args.token in
    on-any c.from_residual.result _ (λ before cmd h.
    let kept : AreLedgersOf before old = subst (AreLedgersOf before) (sym c.self.view_is) h in
    one-line-right before cmd (Returned c.args.port c.args.token) thing refl tt tt (silent-in-order (told before) old.messages thing (λ k. refl) (λ k. refl) kept.waiting)
    (c.in_err-is_right.ensures.memory (told before) kept.held))
