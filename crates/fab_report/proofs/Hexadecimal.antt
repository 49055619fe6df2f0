-- Bytes in hexadecimal digits.
use Rattle.std.proofs.Common.{◌≡◌, ℕ, zero, suc, ◌/◌, ◌%◌, ◌<◌, ◌==◌, Bool, true, ◌&&◌, List, [], ◌∷◌, slice_index, inl, inr, refl, arith}
use Rattle.std.specs.Prelude.{flat_map}
use Rattle.std.proofs.lemmas.Bool.{and_parts, cases_lt, eqb-true}
use Rattle.hex.specs.Hex.{IsBytes, encode_with, encode_lower, lower_digits}
use Rattle.line_table.specs.Texts.{hex_digit, hex_text}

-- the first places of the table have the digits
abbrev same_below : ℕ → Bool
same_below zero = true
same_below (suc n) = (slice_index lower_digits n == hex_digit n) && same_below n

digit-at : (n k : ℕ) → same_below n ≡ true → k < n → slice_index lower_digits k ≡ hex_digit k
digit-at zero k h lt = absurd (omega arith)
digit-at (suc n) k h lt =
    let parts = and_parts (slice_index lower_digits n == hex_digit n) (same_below n) h in
    elim (cases_lt k n) [
      | inl below ↦ digit-at n k parts.1 below
      | inr top ↦
          let e : k ≡ n = omega arith in
          rw e (eqb-true (slice_index lower_digits n) (hex_digit n) parts.0)
    ]

-- each byte is two digits
encoded : (xs : List ℕ) → IsBytes xs → encode_with lower_digits xs ≡ flat_map (λ x. hex_digit (x / 16) ∷ hex_digit (x % 16) ∷ []) xs
unfolding encode_with
encoded [] h = refl
encoded (b ∷ rest) h =
    let fits : b < 256 = h 0 in
    let high : b / 16 < 16 = omega arith in
    let low : b % 16 < 16 = omega arith in
    λ i. digit-at 16 (b / 16) refl high i ∷ digit-at 16 (b % 16) refl low i ∷ encoded rest (λ k. h (suc k)) i

-- bytes are written in digits where there are any
pub hex_written : (xs : List ℕ) → (xs ≡ [] → ⊥) → IsBytes xs → encode_lower xs ≡ hex_text xs
hex_written [] some h = absurd (some refl)
hex_written (b ∷ bs) some h = encoded (b ∷ bs) h
