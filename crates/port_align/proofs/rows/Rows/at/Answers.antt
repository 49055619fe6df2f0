use Rattle.std.proofs.Common.{◌≡◌, ◌<◌, length, map, None, get_or, ap, sym, ◌∙◌, arith}
use Rattle.std.proofs.lemmas.List.{get_or-map, length-map}
use Rattle.port_align.specs.Kept.{RowTable, end_in}
use Rattle.port_align.proofs.rows.Rows.at.Goals as goal

pub index-requires : goal.index-requires
index-requires c =
    let ends = c.self.inside.ends.items in
    let long : length c.args.self.now.items ≡ length (map end_in ends) = ap (λ (t : RowTable). length t.items) (sym c.self.view_is) in
    let count = length-map ends end_in in
    let r = c.requires in
    omega arith

pub returns : goal.returns
returns c =
    let ends = c.self.inside.ends.items in
    let long : length c.args.self.now.items ≡ length (map end_in ends) = ap (λ (t : RowTable). length t.items) (sym c.self.view_is) in
    let count = length-map ends end_in in
    let r = c.requires in
    let below : c.args.place < length ends = omega arith in
    c.end_in.ensures ∙ ap end_in c.index.ensures ∙ sym (get_or-map end_in ends c.args.place c.index.result.now None below) ∙ ap (λ (t : RowTable). get_or t.items c.args.place None) c.self.view_is
