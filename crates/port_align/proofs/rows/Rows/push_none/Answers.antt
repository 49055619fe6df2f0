use Rattle.std.proofs.Common.{◌≡◌, ◌++◌, ◌∷◌, [], length, map, None, ap, sym, ◌∙◌, arith}
use Rattle.std.proofs.lemmas.List.{map-append, length-map}
use Rattle.std.specs.Prelude.{vec_capacity}
use Rattle.port_align.specs.Kept.{RowTable, end_in}
use Rattle.port_align.proofs.rows.Rows.push_none.Goals as goal

pub push_reserved-requires : goal.push_reserved-requires
push_reserved-requires c =
    let ends = c.self.inside.ends.items in
    let long : length c.args.self.now.items ≡ length (map end_in ends) = ap (λ (t : RowTable). length t.items) (sym c.self.view_is) in
    let room : c.args.self.now.room ≡ vec_capacity c.self.inside.ends = ap (λ (t : RowTable). t.room) (sym c.self.view_is) in
    let count = length-map ends end_in in
    let r = c.requires in
    omega arith

pub returns-clause-items : goal.returns-clause-items
returns-clause-items c =
    let ends = c.self.inside.ends.items in
    ap (map end_in) c.push_reserved.ensures.items ∙ map-append end_in ends (c.kept.result ∷ []) ∙ ap (λ e. map end_in ends ++ e ∷ []) c.kept.ensures ∙ ap (λ (t : RowTable). t.items ++ None ∷ []) c.self.view_is
