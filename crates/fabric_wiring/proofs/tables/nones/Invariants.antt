use Rattle.std.proofs.Common.{◌≡◌, ◌≤◌, ◌-◌, None, replicate, length}
use Rattle.fabric_wiring.proofs.tables.nones.Given as goal

abbrev pub invariant-loop-out : goal.invariant-loop-out
invariant-loop-out l = (l.out.items ≡ replicate (length l.out.items) None) × (length l.out.items ≤ l.places)

abbrev pub decreases-loop-out : goal.decreases-loop-out
decreases-loop-out l = l.places - length l.out.items
