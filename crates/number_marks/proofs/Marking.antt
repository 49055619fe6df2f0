-- Marks that are written, and the lowest bit of a word.
use Rattle.std.proofs.Common.{◌≡◌, ◌≢◌, ◌<◌, ◌≤◌, ◌+◌, ◌-◌, ◌*◌, ◌/◌, ◌%◌, ◌^◌, ℕ, Bool, true, false, nat_eq, true≢false, List, length, get_or, set, bit_and, bit_or, w64, refl, sym, ap, ◌∙◌, arith}
use Rattle.std.specs.Int.{bit_at, bit_not, trailing_zeros}
use Rattle.std.proofs.lemmas.Bool.Decides.{Decides-eqb}
use Rattle.std.proofs.lemmas.List.{get_or-set_same, get_or-set_other, get_or_default}
use Rattle.std.proofs.lemmas.Nat.{shr-shr}
use Rattle.std.proofs.lemmas.Nat.Bits.{bit_at-zero, bit_at_above, bit_at-trailing_zeros, bit_at_set_same, bit_at_set_other, bit_at_clear_same, bit_at_clear_other}
use Rattle.std.proofs.Math.ListN.{length-set}
use Rattle.std.proofs.Math.Nat.{div-le_self}
use native.Mathlib.Decide.{dec_lt}
use Rattle.number_marks.specs.Marks.{mark_at, IsWritten, IsLowestBit}

-- ---- one mark
within : (n : ℕ) → n % 64 < 64
within n = omega arith

-- a word was written: the marks of its numbers are its bits
written : (words : List ℕ) (n word mark : ℕ) → n / 64 < length words → bit_at word (n % 64) ≡ mark
    → ((i : ℕ) → i < 64 → i ≢ n % 64 → bit_at word i ≡ bit_at (get_or words (n / 64) 0) i) → IsWritten words (set words (n / 64) word) n mark
written words n word mark low here others = record {
  here = ap (λ w. bit_at w (n % 64)) (get_or-set_same words (n / 64) word 0 low) ∙ here;
  others = λ k apart. by k apart (nat_eq (k / 64) (n / 64)) refl;
  size = length-set {A = ℕ} words (n / 64) word;
}
  where
    by : (k : ℕ) → k ≢ n → (t : Bool) → nat_eq (k / 64) (n / 64) ≡ t → mark_at (set words (n / 64) word) k ≡ mark_at words k
    by k apart true e =
        let same : k / 64 ≡ n / 64 = (Decides-eqb (k / 64) (n / 64)).0 e in
        let other : k % 64 ≢ n % 64 = λ h. apart (omega (arith, same, h)) in
        ap (λ i. bit_at (get_or (set words (n / 64) word) i 0) (k % 64)) same
        ∙ ap (λ w. bit_at w (k % 64)) (get_or-set_same words (n / 64) word 0 low)
        ∙ others (k % 64) (within k) other
        ∙ ap (λ i. bit_at (get_or words i 0) (k % 64)) (sym same)
    by k apart false e =
        let other : k / 64 ≢ n / 64 = λ h. true≢false (sym ((Decides-eqb (k / 64) (n / 64)).1 h) ∙ e) in
        ap (λ w. bit_at w (k % 64)) (get_or-set_other words (n / 64) (k / 64) word 0 other)

-- a number is marked, in the word that was read
pub marked : (words : List ℕ) (n was : ℕ) → n < 64 * length words → was ≡ get_or words (n / 64) was → IsWritten words (set words (n / 64) (bit_or was (1 * 2 ^ (n % 64) % 2 ^ 64))) n 1
marked words n was low read =
    let at : n / 64 < length words = omega arith in
    written words n (bit_or was (1 * 2 ^ (n % 64) % 2 ^ 64)) 1 at (bit_at_set_same w64 was (n % 64) (within n))
    (λ i h apart. bit_at_set_other w64 was (n % 64) (within n) i apart ∙ ap (λ w. bit_at w i) (read ∙ get_or_default words (n / 64) was 0 at))

-- and a mark is taken away
pub unmarked : (words : List ℕ) (n was : ℕ) → n < 64 * length words → was ≡ get_or words (n / 64) was → IsWritten words (set words (n / 64) (bit_and was (bit_not w64 (1 * 2 ^ (n % 64) % 2 ^ 64)))) n 0
unmarked words n was low read =
    let at : n / 64 < length words = omega arith in
    written words n (bit_and was (bit_not w64 (1 * 2 ^ (n % 64) % 2 ^ 64))) 0 at (bit_at_clear_same w64 was (n % 64) (within n))
    (λ i h apart. bit_at_clear_other w64 was (n % 64) (within n) i h apart ∙ ap (λ w. bit_at w i) (read ∙ get_or_default words (n / 64) was 0 at))

-- ---- the lowest bit
-- a bit from a place on, in what stands there
bit-from : (word from k : ℕ) → from ≤ k → bit_at word k ≡ bit_at (word / 2 ^ from) (k - from)
bit-from word from k h =
    let e : k ≡ from + (k - from) = omega arith in
    ap (λ j. word / 2 ^ j % 2) e ∙ ap (λ x. x % 2) (sym (shr-shr word from (k - from)))

pub no-bit : (word from : ℕ) → word / 2 ^ from ≡ 0 → (k : ℕ) → from ≤ k → bit_at word k ≡ 0
no-bit word from none k h = bit-from word from k h ∙ ap (λ x. bit_at x (k - from)) none ∙ bit_at-zero (k - from)

pub lowest-bit : (word from : ℕ) → word < 2 ^ 64 → 0 < word / 2 ^ from → IsLowestBit word from (from + trailing_zeros w64 (word / 2 ^ from))
lowest-bit word from fits some = by (trailing_zeros w64 (word / 2 ^ from)) (bit_at-trailing_zeros w64 (word / 2 ^ from) some (omega (arith, div-le_self word (2 ^ from))))
  where
    by : (t : ℕ) → (t < 64) × (bit_at (word / 2 ^ from) t ≡ 1) × ((i : ℕ) → i < t → bit_at (word / 2 ^ from) i ≡ 0) → IsLowestBit word from (from + t)
    by t h = record {
      above = omega arith;
      within = elim (dec_lt (from + t) 64) [ yes low ↦ low | no high ↦ absurd (one-zero (sym set ∙ bit_at_above word 64 (from + t) fits (omega (arith, high)))) ];
      set = set;
      passed = λ k low high. bit-from word from k low ∙ h.2 (k - from) (omega arith);
    }
      where
        set : bit_at word (from + t) ≡ 1
        set = let e : from + t - from ≡ t = omega arith in bit-from word from (from + t) (omega arith) ∙ ap (λ i. bit_at (word / 2 ^ from) i) e ∙ h.1

        one-zero : ◌≡◌ {A = ℕ} 1 0 → ⊥
        one-zero e = omega (arith, e)
