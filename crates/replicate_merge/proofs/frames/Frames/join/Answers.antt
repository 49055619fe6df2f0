use Rattle.std.proofs.Common.{◌≡◌, ◌<◌, ℕ, List, length, ap, sym, subst, to_z, of_z, w8}
use Rattle.port_align.specs.declared.frame.ClassFrame.{ClassFrame}
use Rattle.replicate_merge.specs.Rings.{AreRings, FrameTable}
use Rattle.replicate_merge.specs.Ways.{frame_at}
use Rattle.replicate_merge.proofs.Rings.{rings-spliced}
use Rattle.replicate_merge.proofs.frames.Frames.join.Goals as goal

pub invariant_of-self : goal.invariant_of-self
invariant_of-self c =
    let fs = c.self.inside.frames.items in
    let next = c.self.inside.next.items in
    let new = c.move_ring.new.frames.items in
    let items : c.args.self.now.items ≡ fs = ap (λ (t : FrameTable). t.items) (sym c.self.view_is) in
    let is_from = subst (λ (l : List ClassFrame). c.args.from < length l) items c.requires.is_from in
    let is_to = subst (λ (l : List ClassFrame). c.args.to < length l) items c.requires.is_to in
    let first = subst (λ (l : List ClassFrame). (frame_at l c.args.from).class ≡ c.args.from) items c.requires.first in
    let second = subst (λ (l : List ClassFrame). (frame_at l c.args.to).class ≡ c.args.to) items c.requires.second in
    subst (λ (l : List ℕ). AreRings new l) (sym c.splice.ensures)
    (rings-spliced c.args.from c.args.to (to_z w8 (of_z w8 c.args.by)) fs new next c.self.invariant c.move_ring.ensures c.requires.two is_from is_to first second)
