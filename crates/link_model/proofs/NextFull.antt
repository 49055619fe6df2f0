-- The next full channel is the least.
use Rattle.std.proofs.Common.{◌≡◌, ◌<◌, ◌≤◌, ◌+◌, ◌-◌, ℕ, true, false, length, Some, None, is_some, arith}
use native.Mathlib.Decide.{dec_lt}
use Rattle.std.proofs.Math.ListN.{get_or-eq_default}
use Rattle.world_defs.specs.Links.{LinkState, packet_in}
use Rattle.link_model.proofs.Fullness.{find-found, find-missed, none-there}
use Rattle.link_model.specs.Full.{next_full, IsNextFull}

-- ---- what the next full channel says
-- it is the least full channel from the number on, and the channels below it hold nothing
pub next_full-some : (s : LinkState) (from c : ℕ) → next_full s from ≡ Some c → IsNextFull s from c
next_full-some s from c is = by (find-found (λ k. is_some (packet_in s k)) (length s.channels - from) from c is)
  where
    by : (from ≤ c) × (c < from + (length s.channels - from)) × (is_some (packet_in s c) ≡ true) × ((k : ℕ) → from ≤ k → k < c → is_some (packet_in s k) ≡ false) → IsNextFull s from c
    by h = record {
      above = h.0;
      there = omega (arith, h.0, h.1);
      full = h.2;
      passed = λ k low high. none-there (packet_in s k) (h.3 k low high);
    }

-- there is none where no channel from the number on holds a packet
pub next_full-none : (s : LinkState) (from : ℕ) → next_full s from ≡ None → (k : ℕ) → from ≤ k → packet_in s k ≡ None
next_full-none s from is k low = elim (dec_lt k (length s.channels)) [
  | yes h ↦ none-there (packet_in s k) (find-missed (λ k. is_some (packet_in s k)) (length s.channels - from) from is k low (omega (arith, h)))
  | no h ↦ get_or-eq_default s.channels None (omega (arith, h))
]
