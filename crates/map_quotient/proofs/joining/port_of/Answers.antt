use Rattle.std.proofs.Common.{◌≡◌, ℕ, ◌+ℤ◌, ap, sym, ◌∙◌, subst, rules, w8, to_z, of_z, FitsSigned, arith}
use Rattle.std.proofs.lemmas.Int.{ints, to_z-of_z}
use Rattle.std.proofs.lemmas.Option.{get_or_from_slice_get}
use Rattle.port_align.specs.declared.frame.ClassFrame.{ClassFrame}
use Rattle.replicate_merge.specs.Ways.{frame_at}
use Rattle.map_quotient.specs.Numbering.{IsVertexOf}
use Rattle.map_quotient.specs.Joining.{vertex_at}
use Rattle.map_quotient.proofs.joining.port_of.Goals as goal

pub vertex_of-requires : goal.vertex_of-requires
vertex_of-requires c =
    let is : frame_at c.args.c.now.frames c.args.n ≡ c.class_of-frame.result = get_or_from_slice_get c.args.c.now.frames c.args.n c.class_of-frame.result _ c.class_of-frame.ensures.frame in
    subst (λ (f : ClassFrame). (v : ℕ) × IsVertexOf c.args.vertices.now f.class v) is (c.requires.numbered c.args.n c.requires.there)

pub returns-clause-vertex : goal.returns-clause-vertex
returns-clause-vertex c =
    let is : frame_at c.args.c.now.frames c.args.n ≡ c.class_of-frame.result = get_or_from_slice_get c.args.c.now.frames c.args.n c.class_of-frame.result _ c.class_of-frame.ensures.frame in
    c.vertex_of.ensures ∙ ap (λ (f : ClassFrame). vertex_at c.args.vertices.now f.class) (sym is)

pub returns-clause-port : goal.returns-clause-port
returns-clause-port c =
    let is : frame_at c.args.c.now.frames c.args.n ≡ c.class_of-frame.result = get_or_from_slice_get c.args.c.now.frames c.args.n c.class_of-frame.result _ c.class_of-frame.ensures.frame in
    let turn = c.requires.turn in
    let offset = c.class_of-frame.ensures.in_range in
    let fits : FitsSigned w8 c.args.p = search rules in
    let fits_offset : FitsSigned w8 c.class_of-frame.result.offset = search rules in
    let fits_sum : FitsSigned w8 (c.args.p +ℤ c.class_of-frame.result.offset) = grind (arith, ints) in
    let a : to_z w8 (of_z w8 c.args.p) ≡ c.args.p = to_z-of_z w8 c.args.p fits in
    let b : to_z w8 (of_z w8 c.class_of-frame.result.offset) ≡ c.class_of-frame.result.offset = to_z-of_z w8 c.class_of-frame.result.offset fits_offset in
    ap (λ z. to_z w8 (of_z w8 (z +ℤ to_z w8 (of_z w8 c.class_of-frame.result.offset)))) a
    ∙ ap (λ z. to_z w8 (of_z w8 (c.args.p +ℤ z))) b
    ∙ to_z-of_z w8 (c.args.p +ℤ c.class_of-frame.result.offset) fits_sum
    ∙ ap (λ (f : ClassFrame). c.args.p +ℤ f.offset) (sym is)
