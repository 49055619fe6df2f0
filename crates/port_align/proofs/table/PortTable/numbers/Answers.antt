use Rattle.std.proofs.Common.{◌≡◌, ◌*◌, length, sym, ap, ◌∙◌, arith}
use Rattle.port_align.specs.Ends.{EndTable}
use Rattle.port_align.proofs.Reading.{length-dense}
use Rattle.port_align.proofs.table.PortTable.numbers.Goals as goal

pub returns : goal.returns
returns c =
    let long : length c.args.self.now.items ≡ 31 * length c.self.inside.known.items = ap (λ (t : EndTable). length t.items) (sym c.self.view_is) ∙ length-dense c.self.inside.known.items c.self.inside.rows.items in
    let e = c.len.ensures in
    omega arith
