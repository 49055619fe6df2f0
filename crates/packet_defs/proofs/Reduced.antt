-- One step of the remainder: it is below 256 and goes well with sums.
use Rattle.std.proofs.Common.{◌≡◌, ◌<◌, ◌≤◌, ◌+◌, ◌-◌, ◌*◌, ◌^◌, ℕ, Bool, true, false, nat_lt, refl, sym, ap, ◌∙◌, subst, arith, if◌then◌else◌}
use Rattle.std.proofs.lemmas.Bool.Decides.{nat_tests}
use Rattle.std.specs.Int.Bits.{bit_xor, xor_assoc, xor_self, xor_lt, xor_block, xor_zero_r}
use Rattle.std.proofs.lemmas.Nat.{xor_comm}
use Rattle.packet_defs.specs.Bits.{bit, reduced, divisor}
use Rattle.packet_defs.specs.Burst.{differ}

pub bit-lt : (c : Bool) → bit c < 2
bit-lt true = omega arith
bit-lt false = omega arith

-- the order of three is free
pub xor_left : (a b c : ℕ) → bit_xor a (bit_xor b c) ≡ bit_xor b (bit_xor a c)
xor_left a b c = sym (xor_assoc a b c) ∙ ap (λ x. bit_xor x c) (xor_comm a b) ∙ xor_assoc b a c

-- of four, the sum of two sums is that of the firsts and that of the seconds
pub xor_swap : (a b c d : ℕ) → bit_xor (bit_xor a b) (bit_xor c d) ≡ bit_xor (bit_xor a c) (bit_xor b d)
xor_swap a b c d = xor_assoc a b (bit_xor c d) ∙ ap (bit_xor a) (xor_left b c d) ∙ sym (xor_assoc a c (bit_xor b d))

-- what is added twice is gone
pub xor_twice : (a d : ℕ) → bit_xor (bit_xor a d) d ≡ a
xor_twice a d = xor_assoc a d d ∙ ap (bit_xor a) (xor_self d) ∙ xor_zero_r a

bit-xor : (a b : Bool) → bit (differ a b) ≡ bit_xor (bit a) (bit b)
bit-xor true true = refl
bit-xor true false = refl
bit-xor false true = refl
bit-xor false false = refl

-- twice a sum and a bit
pub double-xor : (r s : ℕ) (a b : Bool) → 2 * bit_xor r s + bit (differ a b) ≡ bit_xor (2 * r + bit a) (2 * s + bit b)
double-xor r s a b =
    let step : bit_xor (r * 2 + bit a) (s * 2 + bit b) ≡ bit_xor r s * 2 + bit_xor (bit a) (bit b) = xor_block 1 r s (bit a) (bit b) (bit-lt a) (bit-lt b) in
    let m : 2 * bit_xor r s ≡ bit_xor r s * 2 = omega arith in
    let p : 2 * r ≡ r * 2 = omega arith in
    let q : 2 * s ≡ s * 2 = omega arith in
    rw (m, p, q, bit-xor a b) (sym step)

-- below 512 a number is at most 255, or 256 and at most 255
high : (n : ℕ) → n < 512 → nat_lt n 256 ≡ false → 1 * 2 ^ 8 + (n - 256) ≡ n
high n h e = grind (arith, nat_tests)

low_part : (n : ℕ) → n < 512 → n - 256 < 2 ^ 8
low_part n h = omega arith

no_top : (x : ℕ) → bit_xor 1 1 * 2 ^ 8 + x ≡ x
no_top x = omega arith

pub reduced-low : (n : ℕ) → n < 256 → reduced n ≡ n
reduced-low n h = by (nat_lt n 256) refl
  where
    by : (t : Bool) → nat_lt n 256 ≡ t → (if t then n else bit_xor n divisor) ≡ n
    by true e = refl
    by false e = absurd (grind (arith, nat_tests))

pub reduced-high : (n : ℕ) → 256 ≤ n → reduced n ≡ bit_xor n divisor
reduced-high n h = by (nat_lt n 256) refl
  where
    by : (t : Bool) → nat_lt n 256 ≡ t → (if t then n else bit_xor n divisor) ≡ bit_xor n divisor
    by true e = absurd (grind (arith, nat_tests))
    by false e = refl

-- the sum of two at most 8 of degree, by what is left of each
pub reduced-xor : (m n : ℕ) → m < 512 → n < 512 → reduced (bit_xor m n) ≡ bit_xor (reduced m) (reduced n)
reduced-xor m n h k = by (nat_lt m 256) (nat_lt n 256) refl refl
  where
    by : (t u : Bool) → nat_lt m 256 ≡ t → nat_lt n 256 ≡ u → reduced (bit_xor m n) ≡ bit_xor (reduced m) (reduced n)
    by true true p q =
        let a : m < 2 ^ 8 = grind (arith, nat_tests) in
        let b : n < 2 ^ 8 = grind (arith, nat_tests) in
        rw (reduced-low m a, reduced-low n b) (reduced-low (bit_xor m n) (xor_lt 8 m n a b))
    by true false p q =
        let a : m < 2 ^ 8 = grind (arith, nat_tests) in
        let b : 256 ≤ n = grind (arith, nat_tests) in
        let top : bit_xor (0 * 2 ^ 8 + m) (1 * 2 ^ 8 + (n - 256)) ≡ bit_xor 0 1 * 2 ^ 8 + bit_xor m (n - 256) = xor_block 8 0 1 m (n - 256) a (low_part n k) in
        let first : 0 * 2 ^ 8 + m ≡ m = omega arith in
        let more : bit_xor m n ≡ 256 + bit_xor m (n - 256) = sym (ap (λ x. bit_xor x n) first) ∙ sym (ap (bit_xor (0 * 2 ^ 8 + m)) (high n k q)) ∙ top in
        let big : 256 ≤ bit_xor m n = omega (arith, more) in
        reduced-high (bit_xor m n) big ∙ xor_assoc m n divisor ∙ sym (rw (reduced-low m a, reduced-high n b) refl)
    by false true p q =
        let a : 256 ≤ m = grind (arith, nat_tests) in
        let b : n < 2 ^ 8 = grind (arith, nat_tests) in
        let top : bit_xor (1 * 2 ^ 8 + (m - 256)) (0 * 2 ^ 8 + n) ≡ bit_xor 1 0 * 2 ^ 8 + bit_xor (m - 256) n = xor_block 8 1 0 (m - 256) n (low_part m h) b in
        let first : 0 * 2 ^ 8 + n ≡ n = omega arith in
        let more : bit_xor m n ≡ 256 + bit_xor (m - 256) n = sym (ap (bit_xor m) first) ∙ sym (ap (λ x. bit_xor x (0 * 2 ^ 8 + n)) (high m h p)) ∙ top in
        let big : 256 ≤ bit_xor m n = omega (arith, more) in
        reduced-high (bit_xor m n) big ∙ xor_assoc m n divisor ∙ ap (bit_xor m) (xor_comm n divisor) ∙ sym (xor_assoc m divisor n) ∙ sym (rw (reduced-high m a, reduced-low n b) refl)
    by false false p q =
        let a : 256 ≤ m = grind (arith, nat_tests) in
        let b : 256 ≤ n = grind (arith, nat_tests) in
        let top : bit_xor (1 * 2 ^ 8 + (m - 256)) (1 * 2 ^ 8 + (n - 256)) ≡ bit_xor 1 1 * 2 ^ 8 + bit_xor (m - 256) (n - 256) = xor_block 8 1 1 (m - 256) (n - 256) (low_part m h) (low_part n k) in
        let less : bit_xor m n ≡ bit_xor (m - 256) (n - 256) = sym (ap (λ x. bit_xor x n) (high m h p)) ∙ sym (ap (bit_xor (1 * 2 ^ 8 + (m - 256))) (high n k q)) ∙ top ∙ no_top (bit_xor (m - 256) (n - 256)) in
        let small : bit_xor m n < 256 = subst (λ x. x < 256) (sym less) (xor_lt 8 (m - 256) (n - 256) (low_part m h) (low_part n k)) in
        reduced-low (bit_xor m n) small
        ∙ sym (rw (reduced-high m a, reduced-high n b) (xor_swap m divisor n divisor ∙ ap (bit_xor (bit_xor m n)) (xor_self divisor) ∙ xor_zero_r (bit_xor m n)))

-- what is left has a degree below 8
pub reduced-lt : (n : ℕ) → n < 512 → reduced n < 256
reduced-lt n h = by (nat_lt n 256) refl
  where
    by : (t : Bool) → nat_lt n 256 ≡ t → reduced n < 256
    by true p = let a : n < 256 = grind (arith, nat_tests) in subst (λ x. x < 256) (sym (reduced-low n a)) a
    by false p =
        let a : 256 ≤ n = grind (arith, nat_tests) in
        let seven : 7 < 2 ^ 8 = omega arith in
        let top : bit_xor (1 * 2 ^ 8 + (n - 256)) (1 * 2 ^ 8 + 7) ≡ bit_xor 1 1 * 2 ^ 8 + bit_xor (n - 256) 7 = xor_block 8 1 1 (n - 256) 7 (low_part n h) seven in
        let less : bit_xor n divisor ≡ bit_xor (n - 256) 7 = sym (ap (λ x. bit_xor x divisor) (high n h p)) ∙ top ∙ no_top (bit_xor (n - 256) 7) in
        subst (λ x. x < 256) (sym (reduced-high n a ∙ less)) (xor_lt 8 (n - 256) 7 (low_part n h) seven)

-- one step of Horner's rule
abbrev pub step : ℕ → Bool → ℕ
step r c = reduced (2 * r + bit c)

pub doubled-lt : (r : ℕ) (c : Bool) → r < 256 → 2 * r + bit c < 512
doubled-lt r c h = let k = bit-lt c in omega arith

pub step-lt : (r : ℕ) (c : Bool) → r < 256 → step r c < 256
step-lt r c h = reduced-lt (2 * r + bit c) (doubled-lt r c h)

pub step-xor : (r s : ℕ) (a b : Bool) → r < 256 → s < 256 → step (bit_xor r s) (differ a b) ≡ bit_xor (step r a) (step s b)
step-xor r s a b h k = ap reduced (double-xor r s a b) ∙ reduced-xor (2 * r + bit a) (2 * s + bit b) (doubled-lt r a h) (doubled-lt s b k)

-- x times a polynomial that isn't 0 leaves one that isn't 0: the divisor has a 1 at its end
pub step-nonzero : (r : ℕ) → r < 256 → 0 < r → 0 < step r false
step-nonzero r h k = by (nat_lt (2 * r + 0) 256) refl
  where
    by : (t : Bool) → nat_lt (2 * r + 0) 256 ≡ t → 0 < step r false
    by true p = let a : 2 * r + 0 < 256 = grind (arith, nat_tests) in subst (λ x. 0 < x) (sym (reduced-low (2 * r + 0) a)) (omega arith)
    by false p =
        let a : 256 ≤ 2 * r + 0 = grind (arith, nat_tests) in
        let even : 2 * r + 0 ≡ r * 2 ^ 1 + 0 = omega arith in
        let zero_lt : 0 < 2 ^ 1 = omega arith in
        let one_lt : 1 < 2 ^ 1 = omega arith in
        let odd : bit_xor (r * 2 ^ 1 + 0) (131 * 2 ^ 1 + 1) ≡ bit_xor r 131 * 2 ^ 1 + bit_xor 0 1 = xor_block 1 r 131 0 1 zero_lt one_lt in
        subst (λ x. 0 < x) (sym (reduced-high (2 * r + 0) a ∙ ap (λ x. bit_xor x divisor) even ∙ odd)) (omega arith)
