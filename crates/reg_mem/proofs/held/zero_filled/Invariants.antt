-- Zeros alone, and room for the rest.
use Rattle.std.proofs.Common.{◌≡◌, ◌≤◌, ◌-◌, replicate, length}
use Rattle.std.specs.Prelude.{vec_capacity}
use Rattle.reg_mem.proofs.held.zero_filled.Given as goal

abbrev pub invariant-zeroing : goal.invariant-zeroing
invariant-zeroing l = record {
  zeros : l.whole.items ≡ replicate (length l.whole.items) 0;
  within : length l.whole.items ≤ l.len;
  room : l.len ≤ vec_capacity l.whole;
}

abbrev pub decreases-zeroing : goal.decreases-zeroing
decreases-zeroing l = l.len - length l.whole.items
