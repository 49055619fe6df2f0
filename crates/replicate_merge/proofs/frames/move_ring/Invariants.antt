use Rattle.replicate_merge.specs.Rings.{IsMoving, class_size}
use Rattle.replicate_merge.proofs.frames.move_ring.Given as goal

abbrev pub invariant-moving : goal.invariant-moving
invariant-moving l = IsMoving l.from l.to l.by l.next.items l.initial.frames.items l.frames.items l.node

abbrev pub decreases-moving : goal.decreases-moving
decreases-moving l = class_size l.from l.frames.items
