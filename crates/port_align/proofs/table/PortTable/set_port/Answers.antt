use Rattle.std.proofs.Common.{◌≡◌, ◌<◌, ◌+◌, ◌*◌, length, set, sym, ap, ◌∙◌, arith}
use Rattle.port_align.specs.Ends.{EndTable}
use Rattle.port_align.proofs.Reading.{length-dense}
use Rattle.port_align.proofs.Putting.{dense-put}
use Rattle.port_align.proofs.table.PortTable.set_port.Goals as goal

pub put-requires-clause-there : goal.put-requires-clause-there
put-requires-clause-there c =
    let r = c.requires.there in
    let long : length c.args.self.now.items ≡ 31 * length c.self.inside.known.items = ap (λ (t : EndTable). length t.items) (sym c.self.view_is) ∙ length-dense c.self.inside.known.items c.self.inside.rows.items in
    omega arith

pub returns-clause-items : goal.returns-clause-items
returns-clause-items c =
    let ks = c.self.inside.known.items in
    let rows = c.self.inside.rows.items in
    let r = c.requires.there in
    let long : length c.args.self.now.items ≡ 31 * length ks = ap (λ (t : EndTable). length t.items) (sym c.self.view_is) ∙ length-dense ks rows in
    let there : c.args.number < length ks = omega arith in
    dense-put ks rows c.put.new.known.items c.put.new.rows.items c.args.number c.args.place c.args.end c.put.ensures.puts there c.requires.place
    ∙ ap (λ (t : EndTable). set t.items (31 * c.args.number + c.args.place) c.args.end) c.self.view_is
