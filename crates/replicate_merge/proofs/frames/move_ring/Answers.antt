use Rattle.std.proofs.Common.{◌≡◌, ◌≢◌, ◌<◌, List, ap, sym, ◌∙◌, subst, to_z, of_z, w8, rules, SFits}
use Rattle.std.proofs.lemmas.Int.{to_z-of_z}
use Rattle.port_align.specs.declared.frame.ClassFrame.{ClassFrame}
use Rattle.replicate_merge.specs.Rings.{IsMoving, class_size, next_at}
use Rattle.replicate_merge.specs.Ways.{AreJoined, frame_at}
use Rattle.replicate_merge.proofs.Rings.{moving-all, moving-less, moving-step}
use Rattle.replicate_merge.proofs.frames.move_ring.Goals as goal

pub moving-smaller : goal.moving-smaller
moving-smaller c =
    let by = to_z w8 (of_z w8 c.args.by) in
    let old = c.args.frames.now.items in
    let now = c.moving.frames.items in
    let node = c.moving.node in
    let class : (frame_at now node).class ≡ c.args.from = ap (λ (f : ClassFrame). f.class) (sym c.frame_of.ensures) ∙ c.moving-test.true in
    subst (λ (l : List ClassFrame). class_size c.args.from l < class_size c.args.from now) (sym c.move_frame.ensures)
    (moving-less c.args.from c.args.to by c.args.next.now.items old c.requires.two now node c.moving.invariant c.requires.rings class)

pub moving-preserved : goal.moving-preserved
moving-preserved c =
    let by = to_z w8 (of_z w8 c.args.by) in
    let old = c.args.frames.now.items in
    let next = c.args.next.now.items in
    let now = c.moving.frames.items in
    let node = c.moving.node in
    let class : (frame_at now node).class ≡ c.args.from = ap (λ (f : ClassFrame). f.class) (sym c.frame_of.ensures) ∙ c.moving-test.true in
    subst (λ k. IsMoving c.args.from c.args.to by next old c.move_frame.new.frames.items k) (sym c.follower-node.ensures)
    (subst (λ (l : List ClassFrame). IsMoving c.args.from c.args.to by next old l (next_at next node)) (sym c.move_frame.ensures)
    (moving-step c.args.from c.args.to by next old c.requires.two now node c.moving.invariant c.requires.rings class))

pub returns : goal.returns
returns c =
    let old = c.args.frames.now.items in
    let now = c.moving.frames.items in
    let node = c.moving.node in
    let fits : SFits w8 c.args.by = search rules in
    let by : to_z w8 (of_z w8 c.args.by) ≡ c.args.by = to_z-of_z w8 c.args.by fits in
    let done : (frame_at now node).class ≢ c.args.from = λ e. c.moving-test.false (ap (λ (f : ClassFrame). f.class) c.frame_of.ensures ∙ e) in
    subst (λ b. AreJoined c.args.from c.args.to b old now) by
    (moving-all c.args.from c.args.to (to_z w8 (of_z w8 c.args.by)) c.args.next.now.items old c.requires.two now node c.moving.invariant done)
