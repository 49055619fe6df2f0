-- Numbers below a bound, and counts of them.
use Rattle.std.specs.Prelude.{ℕ, zero, suc, ◌+◌, max, Bool, List, [], ◌∷◌, ◌++◌, if◌then◌else◌}

-- the numbers below one, in rising order
abbrev pub numbers_below : ℕ → List ℕ
numbers_below zero = []
numbers_below (suc k) = numbers_below k ++ k ∷ []

-- how many numbers below a bound fail a test: the least that passes it, where all after one that passes do
abbrev pub count_failing : ℕ → (ℕ → Bool) → ℕ
count_failing zero test = 0
count_failing (suc k) test = count_failing k test + (if test k then 0 else 1)

-- the greatest of numbers, 0 without any
abbrev pub greatest : List ℕ → ℕ
greatest [] = 0
greatest (x ∷ xs) = max x (greatest xs)

-- the sum of numbers
abbrev pub total : List ℕ → ℕ
total [] = 0
total (x ∷ xs) = x + total xs
