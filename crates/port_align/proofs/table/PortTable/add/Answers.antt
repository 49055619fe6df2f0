use Rattle.std.proofs.Common.{min, ◌≡◌, ◌+◌, ◌*◌, ◌∷◌, [], List, length, length-append, get_or, None, sym, ap, ◌∙◌, arith}
use Rattle.std.specs.Prelude.{vec_capacity}
use Rattle.port_align.specs.declared.table.Known.{Known}
use Rattle.port_align.specs.declared.table.Known.TheVariants.{Nothing}
use Rattle.port_align.specs.Ends.{EndTable, known_at, row_count}
use Rattle.port_align.proofs.Reading.{length-dense}
use Rattle.port_align.proofs.Putting.{row-count-append, sound-longer, dense-longer, known-push}
use Rattle.port_align.proofs.table.PortTable.add.Goals as goal

pub push_reserved-requires : goal.push_reserved-requires
push_reserved-requires c =
    let long : length c.args.self.now.items ≡ 31 * length c.self.inside.known.items = ap (λ (t : EndTable). length t.items) (sym c.self.view_is) ∙ length-dense c.self.inside.known.items c.self.inside.rows.items in
    let room : c.args.self.now.number_room ≡ min (vec_capacity c.self.inside.known) 4294967296 = ap (λ (t : EndTable). t.number_room) (sym c.self.view_is) in
    let r = c.requires.numbers in
    omega arith

pub invariant_of-self : goal.invariant_of-self
invariant_of-self c =
    let ks = c.self.inside.known.items in
    let long : length c.args.self.now.items ≡ 31 * length ks = ap (λ (t : EndTable). length t.items) (sym c.self.view_is) ∙ length-dense ks c.self.inside.rows.items in
    let room : c.args.self.now.row_room ≡ c.self.inside.rows.room = ap (λ (t : EndTable). t.row_room) (sym c.self.view_is) in
    let numbers : c.args.self.now.number_room ≡ min (vec_capacity c.self.inside.known) 4294967296 = ap (λ (t : EndTable). t.number_room) (sym c.self.view_is) in
    let q = c.requires.numbers in
    let r = c.requires.rows in
    let one : length c.push_reserved.new.self.items ≡ length ks + 1 = ap length c.push_reserved.ensures.items ∙ length-append ks (Nothing ∷ []) in (
      sound-longer ks c.push_reserved.new.self.items c.self.inside.rows.items c.self.invariant.0 (ap row_count c.push_reserved.ensures.items ∙ row-count-append ks (Nothing ∷ []) ∙ omega arith) (λ m. ap (λ (l : List Known). known_at l m) c.push_reserved.ensures.items ∙ known-push ks m),
      omega arith,
      omega arith,
    )

pub returns-clause-more : goal.returns-clause-more
returns-clause-more c =
    let ks = c.self.inside.known.items in
    let rows = c.self.inside.rows.items in
    let new = length-dense c.push_reserved.new.self.items rows in
    let one : length c.push_reserved.new.self.items ≡ length ks + 1 = ap length c.push_reserved.ensures.items ∙ length-append ks (Nothing ∷ []) in
    let long : length c.args.self.now.items ≡ 31 * length ks = ap (λ (t : EndTable). length t.items) (sym c.self.view_is) ∙ length-dense ks rows in
    omega arith

pub returns-clause-same : goal.returns-clause-same
returns-clause-same c = λ k.
    dense-longer c.self.inside.known.items c.push_reserved.new.self.items c.self.inside.rows.items (λ m. ap (λ (l : List Known). known_at l m) c.push_reserved.ensures.items ∙ known-push c.self.inside.known.items m) k
    ∙ ap (λ (t : EndTable). get_or t.items k None) c.self.view_is
