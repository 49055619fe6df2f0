use Rattle.std.proofs.Common.{◌≡◌, true, sym, subst}
use Rattle.std.specs.Prelude.{◌↔◌}
use Rattle.port_ledgers.specs.Held.{AreAllPlaced, port_told}
use Rattle.report_lines.specs.declared.line.ReportLine.TheVariants.{Tokens}
use Rattle.answer_defs.specs.Answer.{Alone, answered, told}
use Rattle.fab_judge.specs.Ledgers.{AreLedgersOf, JudgesLine}
use Rattle.fab_judge.proofs.Telling.{placed-tested}
use Rattle.fab_judge.proofs.ledgers.Ledgers.place.Goals as goal

pub returns : goal.returns
returns c = λ before cmd h.
    let l = c.args.line.now in
    let kept : AreLedgersOf before (record { messages = c.self.inside.messages; tokens = c.self.inside.tokens }) = subst (AreLedgersOf before) (sym c.self.view_is) h in
    subst (λ why. JudgesLine before (answered cmd (Alone (Tokens l))) why c.args.self.now) (sym c.token_unless.ensures)
    (placed-tested before cmd l c.are_placed.result c.args.self.now
    (subst (λ rs. (c.are_placed.result ≡ true) ↔ AreAllPlaced (port_told l.port (told before)) l.sends rs) c.list-2.ensures
    (subst (λ ss. (c.are_placed.result ≡ true) ↔ AreAllPlaced (port_told l.port (told before)) ss c.list-2.result.now) c.list.ensures
    (c.are_placed.ensures (told before) kept.held))) h)
