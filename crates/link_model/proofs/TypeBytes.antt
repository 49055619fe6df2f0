-- The type of a packet, and the route bytes before it.
use Rattle.std.proofs.Common.{◌≡◌, ◌≤◌, ◌+◌, ℕ, Bool, List, [], length, drop, arith}
use Rattle.std.specs.List.{prefix_len}

-- so many of these pass a test, and the next doesn't, if there is one
pub record IsFront (test : ℕ → Bool) (xs : List ℕ) (at : ℕ) : Type 0 where
  pub within : at ≤ length xs
  pub passed : prefix_len test xs ≡ at + prefix_len test (drop at xs)
