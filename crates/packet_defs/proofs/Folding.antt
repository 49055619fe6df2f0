-- The remainder of a list of bits, from a remainder before it.
use Rattle.std.proofs.Common.{◌≡◌, ◌<◌, ◌+◌, ◌*◌, ℕ, zero, suc, Bool, true, false, List, [], ◌∷◌, ◌++◌, length, refl, ap, ◌∙◌, arith}
use Rattle.std.specs.List.{fold}
use Rattle.std.proofs.lemmas.List.Sums.{fold-append}
use Rattle.std.specs.Int.Bits.{bit_xor}
use Rattle.packet_defs.specs.Bits.{bit, reduced, zeros}
use Rattle.packet_defs.specs.Burst.{differ, xor_bits}
use Rattle.packet_defs.proofs.Reduced.{step, step-lt, step-xor, step-nonzero}

-- what is left after more bits
abbrev pub left : ℕ → List Bool → ℕ
left r p = fold (λ n c. reduced (2 * n + bit c)) r p

pub left-append : (r : ℕ) (p q : List Bool) → left r (p ++ q) ≡ left (left r p) q
left-append r p q = fold-append (λ n c. reduced (2 * n + bit c)) r p q

pub left-lt : (r : ℕ) (p : List Bool) → r < 256 → left r p < 256
left-lt r [] h = h
left-lt r (c ∷ p) h = left-lt (step r c) p (step-lt r c h)

-- of a sum it is the sum
pub left-xor : (r s : ℕ) (p q : List Bool) → r < 256 → s < 256 → length p ≡ length q → left (bit_xor r s) (xor_bits p q) ≡ bit_xor (left r p) (left s q)
left-xor r s [] [] h k e = refl
left-xor r s [] (d ∷ q) h k e = absurd (omega (arith, e))
left-xor r s (c ∷ p) [] h k e = absurd (omega (arith, e))
left-xor r s (c ∷ p) (d ∷ q) h k e =
    let same : length p ≡ length q = omega (arith, e) in
    ap (λ n. left n (xor_bits p q)) (step-xor r s c d h k) ∙ left-xor (step r c) (step s d) p q (step-lt r c h) (step-lt s d k) same

-- zeros in front leave nothing
pub left-zeros : (n : ℕ) → left 0 (zeros n) ≡ 0
left-zeros zero = refl
left-zeros (suc n) = left-zeros n

-- and zeros at the end leave nothing only of nothing
pub left-zeros_nonzero : (n r : ℕ) → r < 256 → 0 < r → 0 < left r (zeros n)
left-zeros_nonzero zero r h k = k
left-zeros_nonzero (suc n) r h k = left-zeros_nonzero n (step r false) (step-lt r false h) (step-nonzero r h k)

-- a sum with zeros
pub xor_bits-zeros : (p : List Bool) (n : ℕ) → length p ≡ n → xor_bits p (zeros n) ≡ p
xor_bits-zeros [] n e = refl
xor_bits-zeros (c ∷ p) zero e = absurd (omega (arith, e))
xor_bits-zeros (true ∷ p) (suc n) e = let same : length p ≡ n = omega (arith, e) in ap (λ q. true ∷ q) (xor_bits-zeros p n same)
xor_bits-zeros (false ∷ p) (suc n) e = let same : length p ≡ n = omega (arith, e) in ap (λ q. false ∷ q) (xor_bits-zeros p n same)

-- sums of two halves
pub xor_bits-append : (p q r s : List Bool) → length p ≡ length q → xor_bits (p ++ r) (q ++ s) ≡ xor_bits p q ++ xor_bits r s
xor_bits-append [] [] r s e = refl
xor_bits-append [] (d ∷ q) r s e = absurd (omega (arith, e))
xor_bits-append (c ∷ p) [] r s e = absurd (omega (arith, e))
xor_bits-append (c ∷ p) (d ∷ q) r s e = let same : length p ≡ length q = omega (arith, e) in ap (λ l. differ c d ∷ l) (xor_bits-append p q r s same)
