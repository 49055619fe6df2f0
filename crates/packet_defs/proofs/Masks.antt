-- A flip as two writes.
use Rattle.std.proofs.Common.{◌≡◌, ◌<◌, ◌≤◌, ◌+◌, ◌-◌, ◌*◌, ◌/◌, ◌%◌, ◌^◌, ℕ, suc, Bool, true, false, nat_lt, List, [], ◌∷◌, refl, sym, ap, ◌∙◌, subst, arith}
use Rattle.std.proofs.lemmas.Bool.Decides.{nat_tests}
use Rattle.std.proofs.Math.Nat.{zero-div, zero-mul, div-eq_of_lt}
use Rattle.std.proofs.Math.Pow.{pow_mono}
use Rattle.std.specs.Int.Bits.{bit_xor, xor_zero_r}
use Rattle.packet_defs.specs.Burst.{flipped, masked}

-- nothing flips nothing
pub flipped-none : (bytes : List ℕ) (bit : ℕ) → flipped bytes bit 0 ≡ bytes
flipped-none [] bit = refl
flipped-none (byte ∷ bytes) bit =
    let here : 0 / 2 ^ bit ≡ 0 = zero-div (2 ^ bit) in
    let rest : 0 * 2 ^ (8 - bit) % 256 ≡ 0 = ap (λ x. x % 256) (zero-mul (2 ^ (8 - bit))) in
    rw (here, rest) (λ i. xor_zero_r byte i ∷ flipped-none bytes (bit - 8) i)

-- a pattern that fills the first byte
flipped-first : (bytes : List ℕ) (pattern : ℕ) → flipped bytes 0 pattern ≡ masked bytes 0 pattern
flipped-first [] pattern = refl
flipped-first (byte ∷ bytes) pattern =
    let whole : pattern / 2 ^ 0 ≡ pattern = omega arith in
    let gone : pattern * 2 ^ 8 % 256 ≡ 0 = omega arith in
    ap (λ x. bit_xor byte x ∷ flipped bytes 0 (pattern * 2 ^ 8 % 256)) whole ∙ ap (λ x. bit_xor byte pattern ∷ flipped bytes 0 x) gone ∙ ap (λ l. bit_xor byte pattern ∷ l) (flipped-none bytes 0)

-- the two writes
abbrev two_writes : List ℕ → ℕ → ℕ → List ℕ
two_writes bytes bit pattern = masked (masked bytes (bit / 8) (pattern / 2 ^ (bit % 8))) (bit / 8 + 1) (pattern * 2 ^ (8 - bit % 8) % 256)

-- writes after the first byte
masked-behind : (byte : ℕ) (bytes : List ℕ) (place a b : ℕ) → masked (masked (byte ∷ bytes) (suc place) a) (suc place + 1) b ≡ byte ∷ masked (masked bytes place a) (place + 1) b
masked-behind byte bytes place a b = let e : suc place + 1 ≡ suc (place + 1) = omega arith in ap (λ n. masked (byte ∷ masked bytes place a) n b) e

writes-later : (byte : ℕ) (bytes : List ℕ) (k pattern : ℕ) → pattern < 256 → flipped bytes k pattern ≡ two_writes bytes k pattern → flipped (byte ∷ bytes) (8 + k) pattern ≡ two_writes (byte ∷ bytes) (8 + k) pattern
writes-later byte bytes k pattern h rest =
    let wide : 2 ^ 8 ≤ 2 ^ (8 + k) = pow_mono {i = 8} {j = 8 + k} (omega arith) in
    let here : pattern / 2 ^ (8 + k) ≡ 0 = div-eq_of_lt (omega arith) in
    let back : 8 + k - 8 ≡ k = omega arith in
    let none : 8 - (8 + k) ≡ 0 = omega arith in
    let all : pattern * 2 ^ 0 % 256 ≡ pattern = omega arith in
    let place : (8 + k) / 8 ≡ suc (k / 8) = omega arith in
    let offset : (8 + k) % 8 ≡ k % 8 = omega arith in
    let left : flipped (byte ∷ bytes) (8 + k) pattern ≡ byte ∷ two_writes bytes k pattern = rw (here, back, none, all) (λ i. xor_zero_r byte i ∷ rest i) in
    let right : two_writes (byte ∷ bytes) (8 + k) pattern ≡ byte ∷ two_writes bytes k pattern = rw (place, offset) (masked-behind byte bytes (k / 8) (pattern / 2 ^ (k % 8)) (pattern * 2 ^ (8 - k % 8) % 256)) in
    left ∙ sym right

writes-here : (byte : ℕ) (bytes : List ℕ) (bit pattern : ℕ) → bit < 8 → flipped (byte ∷ bytes) bit pattern ≡ two_writes (byte ∷ bytes) bit pattern
writes-here byte bytes bit pattern h =
    let first : bit - 8 ≡ 0 = omega arith in
    let place : bit / 8 ≡ 0 = omega arith in
    let offset : bit % 8 ≡ bit = omega arith in
    let rest = pattern * 2 ^ (8 - bit) % 256 in
    let left : flipped (byte ∷ bytes) bit pattern ≡ bit_xor byte (pattern / 2 ^ bit) ∷ masked bytes 0 rest = rw first (ap (λ l. bit_xor byte (pattern / 2 ^ bit) ∷ l) (flipped-first bytes rest)) in
    let right : two_writes (byte ∷ bytes) bit pattern ≡ bit_xor byte (pattern / 2 ^ bit) ∷ masked bytes 0 rest = rw (place, offset) refl in
    left ∙ sym right

-- a flip is two writes
pub flipped-masked : (bytes : List ℕ) (bit pattern : ℕ) → pattern < 256 → flipped bytes bit pattern ≡ two_writes bytes bit pattern
flipped-masked [] bit pattern h = refl
flipped-masked (byte ∷ bytes) bit pattern h = by (nat_lt bit 8) refl (flipped-masked bytes (bit - 8) pattern h)
  where
    by : (t : Bool) → nat_lt bit 8 ≡ t → flipped bytes (bit - 8) pattern ≡ two_writes bytes (bit - 8) pattern → flipped (byte ∷ bytes) bit pattern ≡ two_writes (byte ∷ bytes) bit pattern
    by true e rest = let low : bit < 8 = grind (arith, nat_tests) in writes-here byte bytes bit pattern low
    by false e rest =
        let whole : 8 + (bit - 8) ≡ bit = grind (arith, nat_tests) in
        subst (λ b. flipped (byte ∷ bytes) b pattern ≡ two_writes (byte ∷ bytes) b pattern) whole (writes-later byte bytes (bit - 8) pattern h rest)
