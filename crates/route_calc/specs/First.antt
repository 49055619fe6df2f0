-- The least number that passes a test.
use Rattle.std.specs.Prelude.{ℕ, zero, suc, Bool, if◌then◌else◌, Option, Some, None}

-- what was found before, or else this number, where it passes
abbrev pub or_at : Option ℕ → Bool → ℕ → Option ℕ
or_at (Some j) passes k = Some j
or_at None passes k = if passes then Some k else None

-- the least number below a bound that passes
unfoldable pub first_below : ℕ → (ℕ → Bool) → Option ℕ
first_below zero test = None
first_below (suc k) test = or_at (first_below k test) (test k) k
