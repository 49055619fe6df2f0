use Rattle.std.proofs.Common.{◌≡◌, ◌++◌, ◌∷◌, [], ℕ, List, length, ap, sym, ◌∙◌, subst, arith}
use Rattle.port_align.specs.declared.frame.ClassFrame.{ClassFrame}
use Rattle.replicate_merge.specs.Rings.{AreRings}
use Rattle.replicate_merge.specs.Ways.{own_frame}
use Rattle.replicate_merge.proofs.Rings.{ring-added}
use Rattle.replicate_merge.proofs.frames.Frames.add.Goals as goal

pub invariant_of-self : goal.invariant_of-self
invariant_of-self c =
    let fs = c.self.inside.frames.items in
    let next = c.self.inside.next.items in
    let count : c.len-node.result ≡ length fs = (let e = c.len-node.ensures in let o = c.self.inside.frames.ok.0 in omega arith) in
    let frames : c.push_reserved.new.self.items ≡ fs ++ own_frame (length fs) ∷ [] = c.push_reserved.ensures.items ∙ ap (λ k. fs ++ own_frame k ∷ []) count in
    let rings : c.push_reserved-2.new.self.items ≡ next ++ length fs ∷ [] = c.push_reserved-2.ensures.items ∙ ap (λ k. next ++ k ∷ []) count in
    subst (λ (l : List ClassFrame). AreRings l c.push_reserved-2.new.self.items) (sym frames)
    (subst (λ (l : List ℕ). AreRings (fs ++ own_frame (length fs) ∷ []) l) (sym rings) (ring-added fs next c.self.invariant))
