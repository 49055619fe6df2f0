-- Marks of numbers, a bit each, in words of 64.
use Rattle.std.specs.Prelude.{◌≡◌, ◌≢◌, ℕ, ◌<◌, ◌≤◌, ◌/◌, ◌%◌, List, length, slice_index}
use Rattle.std.specs.Int.{bit_at}

-- the mark of a number: 1 where it is marked, else 0
abbrev pub mark_at : List ℕ → ℕ → ℕ
mark_at words n = bit_at (slice_index words (n / 64)) (n % 64)

-- One number's mark was written; the words are as many as before.
pub record IsWritten (old new : List ℕ) (n mark : ℕ) : Type 0 where
  pub here : mark_at new n ≡ mark
  pub others : (k : ℕ) → k ≢ n → mark_at new k ≡ mark_at old k
  pub size : length new ≡ length old

-- No number is marked from one on, below another.
abbrev pub IsBare : List ℕ → ℕ → ℕ → Type 0
IsBare words from end = (k : ℕ) → from ≤ k → k < end → mark_at words k ≡ 0

-- The least marked number that isn't below another.
pub record IsNextMark (words : List ℕ) (from n : ℕ) : Type 0 where
  pub above : from ≤ n
  pub marked : mark_at words n ≡ 1
  pub passed : IsBare words from n

-- The lowest bit of a word that is set and isn't below another.
pub record IsLowestBit (word from bit : ℕ) : Type 0 where
  pub above : from ≤ bit
  pub within : bit < 64
  pub set : bit_at word bit ≡ 1
  pub passed : (k : ℕ) → from ≤ k → k < bit → bit_at word k ≡ 0
