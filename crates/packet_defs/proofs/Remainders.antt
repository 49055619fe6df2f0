-- The remainder is what a division leaves, and nothing else is.
use Rattle.std.proofs.Common.{◌≡◌, ◌<◌, ◌≤◌, ◌+◌, ◌-◌, ◌*◌, ◌/◌, ◌%◌, ◌^◌, ℕ, zero, suc, Bool, true, false, List, [], ◌∷◌, length, nat_lt, refl, sym, ap, ◌∙◌, arith, if◌then◌else◌}
use Rattle.std.proofs.lemmas.Bool.Decides.{nat_tests}
use Rattle.std.proofs.Math.Nat.{pow-suc}
use Rattle.std.proofs.Math.Pow.{pow_mono}
use Rattle.std.specs.List.{fold}
use Rattle.std.specs.Int.Bits.{bit_xor, xor_shr, xor_mod, xor_block, xor_self, xor_zero_r}
use Rattle.packet_defs.specs.Bits.{bit, divisor, reduced, polynomial, product, remainder, IsRemainder}
use Rattle.packet_defs.proofs.Reduced.{bit-lt, xor_swap, double-xor, reduced-lt, reduced-low, reduced-high, reduced-xor, step, step-lt}
use Rattle.packet_defs.proofs.Folding.{left, left-lt}

-- the number of a polynomial, and a product, from one before it
abbrev number_from : ℕ → List Bool → ℕ
number_from n p = fold (λ m c. 2 * m + bit c) n p

abbrev product_from : ℕ → List Bool → ℕ
product_from n q = fold (λ m c. bit_xor (2 * m) (if c then divisor else 0)) n q

-- One step of a division: a multiple p and a rest r, and one bit more.
abbrev Divided : ℕ → ℕ → List Bool → Type 0
Divided p r bits = (q : List Bool) × (number_from (bit_xor p r) bits ≡ bit_xor (product_from p q) (left r bits))

doubled : (p r : ℕ) (c : Bool) → 2 * bit_xor p r + bit c ≡ bit_xor (2 * p) (2 * r + bit c)
doubled p r c = let e : 2 * p + 0 ≡ 2 * p = omega arith in double-xor p r false c ∙ ap (λ x. bit_xor x (2 * r + bit c)) e

small_step : (p r : ℕ) (c : Bool) → 2 * r + bit c < 256 → 2 * bit_xor p r + bit c ≡ bit_xor (bit_xor (2 * p) 0) (step r c)
small_step p r c h = doubled p r c ∙ sym (rw (xor_zero_r (2 * p), reduced-low (2 * r + bit c) h) refl)

large_step : (p r : ℕ) (c : Bool) → 256 ≤ 2 * r + bit c → 2 * bit_xor p r + bit c ≡ bit_xor (bit_xor (2 * p) divisor) (step r c)
large_step p r c h =
    let n = 2 * r + bit c in
    doubled p r c
    ∙ sym (xor_zero_r (bit_xor (2 * p) n))
    ∙ ap (bit_xor (bit_xor (2 * p) n)) (sym (xor_self divisor))
    ∙ xor_swap (2 * p) n divisor divisor
    ∙ ap (bit_xor (bit_xor (2 * p) divisor)) (sym (reduced-high n h))

divided : (p r : ℕ) (bits : List Bool) → r < 256 → Divided p r bits
divided p r [] h = ([], refl)
divided p r (c ∷ bits) h = by (nat_lt (2 * r + bit c) 256) refl (divided (bit_xor (2 * p) 0) (step r c) bits (step-lt r c h)) (divided (bit_xor (2 * p) divisor) (step r c) bits (step-lt r c h))
  where
    by : (t : Bool) → nat_lt (2 * r + bit c) 256 ≡ t → Divided (bit_xor (2 * p) 0) (step r c) bits → Divided (bit_xor (2 * p) divisor) (step r c) bits → Divided p r (c ∷ bits)
    by true e low high =
        let k : 2 * r + bit c < 256 = grind (arith, nat_tests) in
        (false ∷ low.0, ap (λ n. number_from n bits) (small_step p r c k) ∙ low.1)
    by false e low high =
        let k : 256 ≤ 2 * r + bit c = grind (arith, nat_tests) in
        (true ∷ high.0, ap (λ n. number_from n bits) (large_step p r c k) ∙ high.1)

-- the remainder is one
pub remainder-is_one : (p : List Bool) → IsRemainder p (remainder p)
remainder-is_one p = let d = divided 0 0 p (omega arith) in (d.0, d.1, left-lt 0 p (omega arith))

-- What is left of a number of k bits: the same, by its lowest bit and the others.
abbrev modulo : ℕ → ℕ → ℕ
modulo zero n = 0
modulo (suc k) n = reduced (2 * modulo k (n / 2) + n % 2)

modulo-lt : (k n : ℕ) → modulo k n < 256
modulo-lt zero n = omega arith
modulo-lt (suc k) n = let h = modulo-lt k (n / 2) in reduced-lt (2 * modulo k (n / 2) + n % 2) (omega arith)

modulo-xor : (k a b : ℕ) → modulo k (bit_xor a b) ≡ bit_xor (modulo k a) (modulo k b)
modulo-xor zero a b = refl
modulo-xor (suc k) a b =
    let low_a : a % 2 < 2 ^ 1 = omega arith in
    let low_b : b % 2 < 2 ^ 1 = omega arith in
    let ha = modulo-lt k (a / 2) in
    let hb = modulo-lt k (b / 2) in
    let m = modulo k (a / 2) in
    let n = modulo k (b / 2) in
    let halves : bit_xor a b / 2 ≡ bit_xor (a / 2) (b / 2) = xor_shr a b 1 in
    let lows : bit_xor a b % 2 ≡ bit_xor (a % 2) (b % 2) = xor_mod a b 1 in
    let block : bit_xor (m * 2 + a % 2) (n * 2 + b % 2) ≡ bit_xor m n * 2 + bit_xor (a % 2) (b % 2) = xor_block 1 m n (a % 2) (b % 2) low_a low_b in
    let turn : 2 * bit_xor m n ≡ bit_xor m n * 2 = omega arith in
    let turn_m : m * 2 ≡ 2 * m = omega arith in
    let turn_n : n * 2 ≡ 2 * n = omega arith in
    let both : 2 * modulo k (bit_xor a b / 2) + bit_xor a b % 2 ≡ bit_xor (2 * m + a % 2) (2 * n + b % 2) = rw (halves, lows, modulo-xor k (a / 2) (b / 2), turn) (sym block ∙ rw (turn_m, turn_n) refl) in
    ap reduced both ∙ reduced-xor (2 * m + a % 2) (2 * n + b % 2) (omega arith) (omega arith)

half-lt : (n k : ℕ) → n < 2 ^ suc k → n / 2 < 2 ^ k
half-lt n k h = let e : n < 2 ^ k * 2 = rw (pow-suc 2 k) at h in omega arith

-- a number below 256 is left as it is
modulo-small : (k r : ℕ) → r < 256 → r < 2 ^ k → modulo k r ≡ r
modulo-small zero r h j = omega arith
modulo-small (suc k) r h j =
    let half : r / 2 < 256 = omega arith in
    let whole : 2 * (r / 2) + r % 2 ≡ r = omega arith in
    ap (λ x. reduced (2 * x + r % 2)) (modulo-small k (r / 2) half (half-lt r k j)) ∙ ap reduced whole ∙ reduced-low r h

-- zero bits in front change nothing
modulo-front : (k n : ℕ) → n < 2 ^ k → modulo (suc k) n ≡ modulo k n
modulo-front zero n h = let none : n ≡ 0 = omega arith in ap (modulo 1) none
modulo-front (suc k) n h = ap (λ x. reduced (2 * x + n % 2)) (modulo-front k (n / 2) (half-lt n k h))

modulo-wider : (j k n : ℕ) → n < 2 ^ k → modulo (j + k) n ≡ modulo k n
modulo-wider zero k n h = let e : 0 + k ≡ k = omega arith in ap (λ x. modulo x n) e
modulo-wider (suc j) k n h =
    let e : suc j + k ≡ suc (j + k) = omega arith in
    let wide : 2 ^ k ≤ 2 ^ (j + k) = pow_mono (omega arith) in
    ap (λ x. modulo x n) e ∙ modulo-front (j + k) n (omega arith) ∙ modulo-wider j k n h

-- what is left after bits, by the number of all
modulo-left : (k n : ℕ) (bits : List Bool) → left (modulo k n) bits ≡ modulo (length bits + k) (number_from n bits)
modulo-left k n [] = let e : 0 + k ≡ k = omega arith in sym (ap (λ x. modulo x n) e)
modulo-left k n (c ∷ bits) =
    let small = bit-lt c in
    let half : (2 * n + bit c) / 2 ≡ n = omega arith in
    let low : (2 * n + bit c) % 2 ≡ bit c = omega arith in
    let here : step (modulo k n) c ≡ modulo (suc k) (2 * n + bit c) = sym (rw (half, low) refl) in
    let e : length bits + suc k ≡ suc (length bits) + k = omega arith in
    ap (λ x. left x bits) here ∙ modulo-left (suc k) (2 * n + bit c) bits ∙ ap (λ x. modulo x (number_from (2 * n + bit c) bits)) e

number_from-lt : (k n : ℕ) (bits : List Bool) → n < 2 ^ k → number_from n bits < 2 ^ (length bits + k)
number_from-lt k n [] h = let e : 0 + k ≡ k = omega arith in rw e h
number_from-lt k n (c ∷ bits) h =
    let small = bit-lt c in
    let more : 2 * n + bit c < 2 ^ suc k = rw (pow-suc 2 k) (omega arith) in
    let e : suc (length bits) + k ≡ length bits + suc k = omega arith in
    rw e (number_from-lt (suc k) (2 * n + bit c) bits more)

-- a multiple of the divisor leaves nothing
divisor-gone : (k : ℕ) (c : Bool) → 9 ≤ k → modulo k (if c then divisor else 0) ≡ 0
divisor-gone k c h =
    let e : (k - 9) + 9 ≡ k = omega arith in
    let small : 263 < 2 ^ 9 = omega arith in
    let none : 0 < 2 ^ 9 = omega arith in
    by c e small none
  where
    by : (c : Bool) → (k - 9) + 9 ≡ k → 263 < 2 ^ 9 → 0 < 2 ^ 9 → modulo k (if c then divisor else 0) ≡ 0
    by true e small none = sym (ap (λ x. modulo x divisor) e) ∙ modulo-wider (k - 9) 9 divisor small
    by false e small none = sym (ap (λ x. modulo x 0) e) ∙ modulo-wider (k - 9) 9 0 none

product-gone : (K p : ℕ) (q : List Bool) → 9 ≤ K → ((k : ℕ) → K ≤ k → modulo k p ≡ 0) → (k : ℕ) → length q + K ≤ k → modulo k (product_from p q) ≡ 0
product-gone K p [] h gone k j = gone k (omega arith)
product-gone K p (c ∷ q) h gone k j = product-gone (suc K) (bit_xor (2 * p) (if c then divisor else 0)) q (omega arith) next k (omega arith)
  where
    twice : (m : ℕ) → K ≤ m → modulo (suc m) (2 * p) ≡ 0
    twice m h =
        let half : 2 * p / 2 ≡ p = omega arith in
        let even : 2 * p % 2 ≡ 0 = omega arith in
        rw (half, even, gone m h) refl

    next : (m : ℕ) → suc K ≤ m → modulo m (bit_xor (2 * p) (if c then divisor else 0)) ≡ 0
    next zero j = absurd (omega arith)
    next (suc m) j = modulo-xor (suc m) (2 * p) (if c then divisor else 0) ∙ rw (twice m (omega arith), divisor-gone (suc m) c (omega arith)) refl

-- the only one
pub remainder-is_only : (p : List Bool) (r : ℕ) → IsRemainder p r → remainder p ≡ r
remainder-is_only p r is =
    let n = length p in
    let k = (length is.0 + 9) + n in
    let here : remainder p ≡ modulo (n + 0) (polynomial p) = modulo-left 0 0 p in
    let e : n + 0 ≡ n = omega arith in
    let one : 0 < 2 ^ 0 = omega arith in
    let fits : polynomial p < 2 ^ n = rw e at (number_from-lt 0 0 p one) in
    let wide : modulo k (polynomial p) ≡ modulo n (polynomial p) = modulo-wider (length is.0 + 9) n (polynomial p) fits in
    let nothing : (m : ℕ) → 9 ≤ m → modulo m 0 ≡ 0 = λ m h. divisor-gone m false h in
    let gone : modulo k (product is.0 divisor) ≡ 0 = product-gone 9 0 is.0 (omega arith) nothing k (omega arith) in
    let long : 8 ≤ k = omega arith in
    let pow : 2 ^ 8 ≤ 2 ^ k = pow_mono {i = 8} {j = k} long in
    let low : r < 256 = is.2 in
    let small : modulo k r ≡ r = modulo-small k r low (omega arith) in
    here ∙ ap (λ x. modulo x (polynomial p)) e ∙ sym wide ∙ ap (modulo k) is.1 ∙ modulo-xor k (product is.0 divisor) r ∙ rw (gone, small) refl
