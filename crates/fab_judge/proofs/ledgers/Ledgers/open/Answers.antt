use Rattle.std.proofs.Common.{refl, sym, ap, subst}
use Rattle.std.proofs.lemmas.Result.{on_ok_weaker}
use Rattle.port_ledgers.specs.Told.{Opened as ToldOpened}
use Rattle.report_lines.specs.declared.line.ReportLine.TheVariants.{Opened}
use Rattle.answer_defs.specs.Answer.{opened_told}
use Rattle.fab_judge.specs.Ledgers.{LedgersState, AreLedgersOf}
use Rattle.fab_judge.proofs.Telling.{one-judged, one-line-right, silent-waits, silent-in-order}
use Rattle.fab_judge.proofs.Errors.{on-any}
use Rattle.fab_judge.proofs.ledgers.Ledgers.open.Goals as goal

pub returns-clause-told : goal.returns-clause-told
returns-clause-told c =
    let old : LedgersState = record { messages = c.self.inside.messages; tokens = c.self.inside.tokens } in
    let now : LedgersState = record { messages = c.self.inside.messages; tokens = c.open.new.self } in
    on_ok_weaker c.open.result (λ told before cmd h e.
    let kept : AreLedgersOf before old = subst (AreLedgersOf before) (sym c.self.view_is) h in
    let thing = ToldOpened c.args.port c.args.sends c.args.recvs in
    one-judged before cmd (Opened c.args.port) thing now (ap (opened_told c.args.port) e) tt tt tt (silent-waits _ _ thing (λ k. refl) (λ k. refl) kept.waiting) (told _ kept.held))
    c.open.ensures.told

pub returns-clause-memory : goal.returns-clause-memory
returns-clause-memory c =
    let old : LedgersState = record { messages = c.self.inside.messages; tokens = c.self.inside.tokens } in
    let thing = ToldOpened c.args.port c.args.sends c.args.recvs in
    on-any c.open.result _ (λ before cmd h e.
    let kept : AreLedgersOf before old = subst (AreLedgersOf before) (sym c.self.view_is) h in
    one-line-right before cmd (Opened c.args.port) thing (ap (opened_told c.args.port) e) tt tt (silent-in-order _ _ thing (λ k. refl) (λ k. refl) kept.waiting) tt)
