use Rattle.std.proofs.Common.{◌≡◌, ◌≤◌, ◌-◌, None, replicate, length}
use Rattle.link_model.proofs.slots.Slots.new.Given as goal

abbrev pub invariant-loop-slots : goal.invariant-loop-slots
invariant-loop-slots l = (l.slots.items ≡ replicate (length l.slots.items) None) × (length l.slots.items ≤ l.channels)

abbrev pub decreases-loop-slots : goal.decreases-loop-slots
decreases-loop-slots l = l.channels - length l.slots.items
