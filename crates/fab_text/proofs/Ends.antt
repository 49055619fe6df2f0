-- The first byte that fails a test, looked for in the front of a text, and in what follows.
use Rattle.std.proofs.Common.{◌≡◌, ◌<◌, ◌≤◌, ◌+◌, ℕ, zero, suc, List, [], ◌∷◌, Bool, true, false, cond, length, take, drop, refl, ap, arith}
use Rattle.std.specs.List.{prefix_len}

-- it stands in the front
pub in-front : (p : ℕ → Bool) (n : ℕ) (xs : List ℕ) → n ≤ length xs → prefix_len p (take n xs) < n → prefix_len p xs ≡ prefix_len p (take n xs)
in-front p zero xs long below = absurd (omega arith)
in-front p (suc n) [] long below = absurd (omega arith)
in-front p (suc n) (x ∷ xs) long below = by (p x) below (in-front p n xs (omega arith))
  where
    by : (b : Bool) → cond b (1 + prefix_len p (take n xs)) 0 < suc n → (prefix_len p (take n xs) < n → prefix_len p xs ≡ prefix_len p (take n xs))
        → cond b (1 + prefix_len p xs) 0 ≡ cond b (1 + prefix_len p (take n xs)) 0
    by true l rest = ap (λ k. 1 + k) (rest (omega arith))
    by false l rest = refl

-- it doesn't
pub past-front : (p : ℕ → Bool) (n : ℕ) (xs : List ℕ) → n ≤ length xs → n ≤ prefix_len p (take n xs) → prefix_len p xs ≡ n + prefix_len p (drop n xs)
past-front p zero xs long all = omega arith
past-front p (suc n) [] long all = absurd (omega arith)
past-front p (suc n) (x ∷ xs) long all = by (p x) all (past-front p n xs (omega arith))
  where
    by : (b : Bool) → suc n ≤ cond b (1 + prefix_len p (take n xs)) 0 → (n ≤ prefix_len p (take n xs) → prefix_len p xs ≡ n + prefix_len p (drop n xs))
        → cond b (1 + prefix_len p xs) 0 ≡ suc n + prefix_len p (drop n xs)
    by true l rest = let r = rest (omega arith) in omega arith
    by false l rest = absurd (omega arith)
