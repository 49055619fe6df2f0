use Rattle.std.proofs.Common.{sym, ap, subst, true≢false, ◌∙◌}
use Rattle.port_ledgers.specs.Told.{Accepted as ToldAccepted}
use Rattle.report_lines.specs.declared.line.ReportLine.TheVariants.{Accepted}
use Rattle.answer_defs.specs.Answer.{accepted_told, told}
use Rattle.fab_judge.specs.Ledgers.{LedgersState, AreLedgersOf}
use Rattle.fab_judge.proofs.Telling.{one-judged, one-line-right, accepted-token, accepted-in-order}
use Rattle.fab_judge.proofs.Errors.{on-any}
use Rattle.fab_judge.proofs.ledgers.Ledgers.accept.Goals as goal

pub returns-in_ok-send-clause-judges : goal.returns-in_ok-send-clause-judges
returns-in_ok-send-clause-judges c = λ before cmd a h e.
    let old : LedgersState = record { messages = c.self.inside.messages; tokens = c.self.inside.tokens } in
    let now : LedgersState = record { messages = c.send-then-send.new.self; tokens = c.send.new.self } in
    let kept : AreLedgersOf before old = subst (AreLedgersOf before) (sym c.self.view_is) h in
    one-judged before cmd (Accepted a c.args.token) (ToldAccepted c.args.lane c.args.message c.args.token) now (ap (λ m. accepted_told m c.args.token) e) tt tt
    ((c.send.ensures.right (told before) kept.held).0 c.if-send.true) (c.in_ok-send.ensures.told (told before) c.args.token kept.waiting) (c.send.ensures.told c.if-send.true (told before) kept.held)

pub returns-else-send-clause-judges : goal.returns-else-send-clause-judges
returns-else-send-clause-judges c = λ before cmd a h e.
    let old : LedgersState = record { messages = c.self.inside.messages; tokens = c.self.inside.tokens } in
    let kept : AreLedgersOf before old = subst (AreLedgersOf before) (sym c.self.view_is) h in
    accepted-token before cmd a c.args.token c.args.lane c.args.message old (record { messages = c.self.inside.messages; tokens = c.send.new.self }) (ap (λ m. accepted_told m c.args.token) e) kept
    (λ t. true≢false (sym ((c.send.ensures.right (told before) kept.held).1 t) ∙ c.if-send.false))

pub returns-in_err-send-clause-memory : goal.returns-in_err-send-clause-memory
returns-in_err-send-clause-memory c =
    let old : LedgersState = record { messages = c.self.inside.messages; tokens = c.self.inside.tokens } in
    on-any c.from_residual.result _ (λ before cmd a h e.
    let kept : AreLedgersOf before old = subst (AreLedgersOf before) (sym c.self.view_is) h in
    one-line-right before cmd (Accepted a c.args.token) (ToldAccepted c.args.lane c.args.message c.args.token) (ap (λ m. accepted_told m c.args.token) e) tt tt
    (accepted-in-order (told before) old.messages c.args.lane c.args.message c.args.token kept.waiting) ((c.send.ensures.right (told before) kept.held).0 c.if-send.true))
