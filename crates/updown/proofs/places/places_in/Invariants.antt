use Rattle.updown.proofs.Sorted.{AreWritten}
use Rattle.updown.proofs.places.places_in.Given as goal

abbrev pub invariant-loop-place : goal.invariant-loop-place
invariant-loop-place l = AreWritten l.levels l.vertices l.place l.order.items
