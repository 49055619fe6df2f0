use Rattle.std.proofs.Common.{◌≤◌, ◌+◌, ◌*◌, length, get_or, None, sym, ap, ◌∙◌, arith}
use Rattle.std.proofs.lemmas.List.{get_or_past}
use Rattle.port_align.specs.declared.table.Known.TheVariants.{Nothing}
use Rattle.port_align.specs.Ends.{EndTable, look}
use Rattle.port_align.proofs.Reading.{number-place}
use Rattle.port_align.proofs.table.PortTable.at_port.Goals as goal

pub returns-then-number-len : goal.returns-then-number-len
returns-then-number-len c =
    let k = 31 * c.args.number + c.args.place in
    c.looked.ensures ∙ sym (number-place c.self.inside.known.items c.self.inside.rows.items c.args.number c.args.place c.requires) ∙ ap (λ (t : EndTable). get_or t.items k None) c.self.view_is

pub returns-else-number-len : goal.returns-else-number-len
returns-else-number-len c =
    let ks = c.self.inside.known.items in
    let rows = c.self.inside.rows.items in
    let k = 31 * c.args.number + c.args.place in
    let past : length ks ≤ c.args.number = omega (arith, c.len.ensures, c.if-number-len.false) in
    sym (ap (λ (t : EndTable). get_or t.items k None) (sym c.self.view_is) ∙ number-place ks rows c.args.number c.args.place c.requires ∙ ap (λ x. look rows x c.args.place) (get_or_past ks c.args.number Nothing past))
