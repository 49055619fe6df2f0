-- Zeros alone, and no more than are wanted.
use Rattle.std.proofs.Common.{◌≡◌, ◌≤◌, ◌-◌, replicate, length}
use Rattle.world_drain.proofs.awake.bare_places.Given as goal

abbrev pub invariant-filling : goal.invariant-filling
invariant-filling l = record {
  zeros : l.places.items ≡ replicate (length l.places.items) 0;
  within : length l.places.items ≤ l.len;
}

abbrev pub decreases-filling : goal.decreases-filling
decreases-filling l = l.len - length l.places.items
