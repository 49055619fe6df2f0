-- A hexadecimal digit, reckoned from its value.
use Rattle.std.proofs.Common.{ℕ, zero, suc, ◌≡◌, ◌≤◌, ◌<◌, ◌+◌, ◌-◌, ◌==◌, Bool, true, ◌&&◌, inl, inr, slice_index, refl, ap, ◌∙◌, arith}
use Rattle.std.proofs.lemmas.Bool.{and_parts, cases_lt, eqb-true}
use Rattle.hex.specs.Hex.{lower_digits}

-- the digits from one on count up from a byte
abbrev counts : ℕ → ℕ → ℕ → Bool
counts byte first n = byte + n == slice_index lower_digits (first + n)

abbrev all_count : ℕ → ℕ → ℕ → Bool
all_count byte first zero = true
all_count byte first (suc n) = counts byte first n && all_count byte first n

counts-at : (byte first n k : ℕ) → all_count byte first n ≡ true → k < n → counts byte first k ≡ true
counts-at byte first zero k h lt = absurd (omega arith)
counts-at byte first (suc n) k h lt =
    let parts = and_parts (counts byte first n) (all_count byte first n) h in
    elim (cases_lt k n) [
      | inl below ↦ counts-at byte first n k parts.1 below
      | inr top ↦
          let e : k ≡ n = omega arith in
          rw e parts.0
    ]

pub digit_low : (d : ℕ) → d < 10 → 48 + d ≡ slice_index lower_digits d
digit_low d lt =
    let same : 0 + d ≡ d = omega arith in
    eqb-true (48 + d) (slice_index lower_digits (0 + d)) (counts-at 48 0 10 d refl lt) ∙ ap (λ k. slice_index lower_digits k) same

pub digit_high : (d : ℕ) → 10 ≤ d → d < 16 → 97 + (d - 10) ≡ slice_index lower_digits d
digit_high d least lt =
    let below : d - 10 < 6 = omega arith in
    let same : 10 + (d - 10) ≡ d = omega arith in
    eqb-true (97 + (d - 10)) (slice_index lower_digits (10 + (d - 10))) (counts-at 97 10 6 (d - 10) refl below) ∙ ap (λ k. slice_index lower_digits k) same
