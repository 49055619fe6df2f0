use Rattle.std.proofs.Common.{◌≡◌, length, map, set, ap, sym, ◌∙◌, arith}
use Rattle.std.proofs.lemmas.List.{map-set, length-map}
use Rattle.port_align.specs.Kept.{RowTable, end_in}
use Rattle.port_align.proofs.rows.Rows.set.Goals as goal

pub index_mut-requires : goal.index_mut-requires
index_mut-requires c =
    let ends = c.self.inside.ends.items in
    let long : length c.args.self.now.items ≡ length (map end_in ends) = ap (λ (t : RowTable). length t.items) (sym c.self.view_is) in
    let count = length-map ends end_in in
    let r = c.requires in
    omega arith

pub returns-clause-items : goal.returns-clause-items
returns-clause-items c =
    let ends = c.self.inside.ends.items in
    map-set end_in ends c.args.place c.kept.result ∙ ap (set (map end_in ends) c.args.place) c.kept.ensures ∙ ap (λ (t : RowTable). set t.items c.args.place c.args.end) c.self.view_is
