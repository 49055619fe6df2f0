use Rattle.std.proofs.Common.{◌≤◌, ◌+◌, ◌*◌, length, get_or, None, sym, ap, ◌∙◌, arith}
use Rattle.std.proofs.lemmas.List.{get_or_past}
use Rattle.port_align.specs.declared.table.Known.TheVariants.{Nothing}
use Rattle.port_align.specs.Ends.{EndTable, look}
use Rattle.port_align.proofs.Reading.{number-place}
use Rattle.port_align.proofs.table.PortTable.span.Goals as goal

pub span_of-requires : goal.span_of-requires
span_of-requires c = λ p e is. c.self.invariant.0.turns c.args.number p e (sym c.known_of.ensures ∙ is)

pub returns-then-number-len-clause-outside : goal.returns-then-number-len-clause-outside
returns-then-number-len-clause-outside c = λ i l out.
    let ks = c.self.inside.known.items in
    let rows = c.self.inside.rows.items in
    ap (λ (x : EndTable). get_or x.items (31 * c.args.number + i) None) (sym c.self.view_is) ∙ number-place ks rows c.args.number i l ∙ ap (λ k. look rows k i) (sym c.known_of.ensures) ∙ c.span_of.ensures.outside rows i l out

pub returns-else-number-len-clause-outside : goal.returns-else-number-len-clause-outside
returns-else-number-len-clause-outside c = λ i l out.
    let ks = c.self.inside.known.items in
    let rows = c.self.inside.rows.items in
    let past : length ks ≤ c.args.number = omega (arith, c.len.ensures, c.if-number-len.false) in
    ap (λ (x : EndTable). get_or x.items (31 * c.args.number + i) None) (sym c.self.view_is) ∙ number-place ks rows c.args.number i l ∙ ap (λ k. look rows k i) (get_or_past ks c.args.number Nothing past)
