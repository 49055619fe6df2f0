use Rattle.std.proofs.Common.{◌≡◌, sym, ap, subst, Ok, ◌∷◌, []}
use Rattle.port_ledgers.specs.Told.{Told, Received as ToldReceived}
use Rattle.report_lines.specs.declared.line.ReportLine.TheVariants.{Received}
use Rattle.answer_defs.specs.Answer.{Alone, answered, told, received_as}
use Rattle.fab_judge.specs.Ledgers.{LedgersState, AreLedgersOf, JudgesLine}
use Rattle.fab_judge.proofs.Telling.{tested, one-line-right, received-is, not-next}
use Rattle.fab_judge.proofs.Errors.{on-any}
use Rattle.fab_judge.proofs.ledgers.Ledgers.receive_next.Goals as goal

pub returns-in_ok-is_right-clause-judges : goal.returns-in_ok-is_right-clause-judges
returns-in_ok-is_right-clause-judges c = λ before cmd h.
    let l = c.args.line.now in
    let old : LedgersState = record { messages = c.self.inside.messages; tokens = c.self.inside.tokens } in
    let now : LedgersState = record { messages = c.receive.new.self; tokens = c.receive-then-receive.new.self } in
    let kept : AreLedgersOf before old = subst (AreLedgersOf before) (sym c.self.view_is) h in
    let thing : Told = ToldReceived c.lane_of-lane.result l.sport c.bytes.result.now l.token in
    let e : received_as l ∷ [] ≡ thing ∷ [] = received-is l c.lane_of-lane.result c.bytes.result.now c.lane_of-lane.ensures c.bytes.ensures in
    subst (λ why. JudgesLine before (answered cmd (Alone (Received l))) why now) (sym c.token_unless.ensures)
    (tested before cmd (Received l) thing c.in_ok-is_right.is_right now e c.requires tt
    ((c.receive.ensures.right (told before) l.token kept.waiting).0 c.if-receive.true)
    (c.in_ok-is_right.ensures.right (told before) l.sport c.bytes.result.now kept.held)
    (λ y. c.receive.ensures.told c.if-receive.true (told before) l.token kept.waiting)
    (λ y. c.in_ok-is_right.ensures.told (ap Ok y) (told before) l.sport c.bytes.result.now kept.held))

pub returns-else-receive-clause-judges : goal.returns-else-receive-clause-judges
returns-else-receive-clause-judges c = λ before cmd h.
    let l = c.args.line.now in
    let old : LedgersState = record { messages = c.self.inside.messages; tokens = c.self.inside.tokens } in
    let kept : AreLedgersOf before old = subst (AreLedgersOf before) (sym c.self.view_is) h in
    let thing : Told = ToldReceived c.lane_of-lane.result l.sport c.bytes.result.now l.token in
    not-next before cmd l thing c.receive.result (received-is l c.lane_of-lane.result c.bytes.result.now c.lane_of-lane.ensures c.bytes.ensures) (c.receive.ensures.right (told before) l.token kept.waiting) c.if-receive.false

pub returns-in_err-is_right-clause-memory : goal.returns-in_err-is_right-clause-memory
returns-in_err-is_right-clause-memory c =
    let l = c.args.line.now in
    let old : LedgersState = record { messages = c.self.inside.messages; tokens = c.self.inside.tokens } in
    let thing : Told = ToldReceived c.lane_of-lane.result l.sport c.bytes.result.now l.token in
    let e : received_as l ∷ [] ≡ thing ∷ [] = received-is l c.lane_of-lane.result c.bytes.result.now c.lane_of-lane.ensures c.bytes.ensures in
    on-any c.from_residual.result _ (λ before cmd h.
    let kept : AreLedgersOf before old = subst (AreLedgersOf before) (sym c.self.view_is) h in
    one-line-right before cmd (Received l) thing e c.requires tt ((c.receive.ensures.right (told before) l.token kept.waiting).0 c.if-receive.true)
    (c.in_err-is_right.ensures.memory (told before) l.sport c.bytes.result.now kept.held))
