-- A burst in a packet: its bits, and the difference that it leaves.
use Rattle.std.proofs.Common.{◌≡◌, ◌<◌, ◌≤◌, ◌+◌, ◌-◌, ◌*◌, ◌/◌, ◌%◌, ◌^◌, ℕ, zero, suc, Bool, true, false, not, ◌&&◌, nat_lt, List, [], ◌∷◌, ◌++◌, length, replicate, refl, sym, ap, ◌∙◌, subst, arith, append_assoc, true≢false}
use Rattle.std.proofs.lemmas.Bool.Decides.{nat_tests}
use Rattle.std.proofs.lemmas.List.{length-append, length-replicate}
use Rattle.std.proofs.Math.ListN.{replicate-append-replicate}
use Rattle.std.proofs.Math.Nat.{zero-div, zero-mul, div-eq_of_lt, div-le_self, lt_of_le_of_lt}
use Rattle.std.proofs.Math.Pow.{pow_mono}
use Rattle.std.specs.Int.Bits.{bit_xor}
use Rattle.std.proofs.lemmas.Nat.{xor_of_8}
use Rattle.packet_defs.specs.Bits.{bits_of_byte, bits_of, zeros}
use Rattle.packet_defs.specs.Burst.{differ, xor_bits, flipped, burst}
use Rattle.packet_defs.proofs.Checking.{below, each_below, left-byte}
use Rattle.packet_defs.specs.Crc.{crc}
use Rattle.packet_defs.specs.Packet.{difference}
use Rattle.packet_defs.proofs.Reduced.{xor_twice}
use Rattle.packet_defs.proofs.Folding.{left, left-append, left-xor, left-zeros, left-zeros_nonzero, xor_bits-append}
use Rattle.packet_defs.proofs.Crcs.{bits_of_byte-xor, length-bits_of, crc-lt, crc-left}
use Rattle.packet_defs.proofs.Packets.{ended_wire, difference-push}

pub length-flipped : (bytes : List ℕ) (bit pattern : ℕ) → length (flipped bytes bit pattern) ≡ length bytes
length-flipped [] bit pattern = refl
length-flipped (byte ∷ bytes) bit pattern = ap suc (length-flipped bytes (bit - 8) (pattern * 2 ^ (8 - bit) % 256))

-- the flip of zeros alone
abbrev pub flipped_zeros : ℕ → ℕ → ℕ → List ℕ
flipped_zeros n bit pattern = flipped (replicate n 0) bit pattern

-- a flip adds the flip of zeros
pub bits_of-flipped : (bytes : List ℕ) (bit pattern : ℕ) → bits_of (flipped bytes bit pattern) ≡ xor_bits (bits_of bytes) (bits_of (flipped_zeros (length bytes) bit pattern))
bits_of-flipped [] bit pattern = refl
bits_of-flipped (byte ∷ bytes) bit pattern =
    let rest = pattern * 2 ^ (8 - bit) % 256 in
    let here = pattern / 2 ^ bit in
    ap (λ l. l ++ bits_of (flipped bytes (bit - 8) rest)) (bits_of_byte-xor byte here)
    ∙ ap (λ l. xor_bits (bits_of_byte byte) (bits_of_byte here) ++ l) (bits_of-flipped bytes (bit - 8) rest)
    ∙ sym (xor_bits-append (bits_of_byte byte) (bits_of_byte here) (bits_of bytes) (bits_of (flipped_zeros (length bytes) (bit - 8) rest)) refl)

-- two lists of bits are the same
abbrev same : List Bool → List Bool → Bool
same [] [] = true
same [] (d ∷ q) = false
same (c ∷ p) [] = false
same (c ∷ p) (d ∷ q) = not (differ c d) && same p q

same-true : (p q : List Bool) → same p q ≡ true → p ≡ q
same-true [] [] e = refl
same-true [] (d ∷ q) e = absurd (true≢false (sym e))
same-true (c ∷ p) [] e = absurd (true≢false (sym e))
same-true (true ∷ p) (true ∷ q) e = ap (λ l. true ∷ l) (same-true p q e)
same-true (true ∷ p) (false ∷ q) e = absurd (true≢false (sym e))
same-true (false ∷ p) (true ∷ q) e = absurd (true≢false (sym e))
same-true (false ∷ p) (false ∷ q) e = ap (λ l. false ∷ l) (same-true p q e)

-- a pattern that begins within a byte, as the bits of that byte and of the next
abbrev over_two : ℕ → ℕ → Bool
over_two bit pattern = same (bits_of_byte (pattern / 2 ^ bit) ++ bits_of_byte (pattern * 2 ^ (8 - bit) % 256)) (zeros bit ++ bits_of_byte pattern ++ zeros (8 - bit))

over_two_check : below (λ bit. below (over_two bit) 256) 8 ≡ true
over_two_check = refl

two_bytes : (bit pattern : ℕ) → bit < 8 → pattern < 256 → bits_of_byte (pattern / 2 ^ bit) ++ bits_of_byte (pattern * 2 ^ (8 - bit) % 256) ≡ zeros bit ++ bits_of_byte pattern ++ zeros (8 - bit)
two_bytes bit pattern h k =
    let t = each_below (over_two bit) 256 (each_below (λ b. below (over_two b) 256) 8 over_two_check bit h) pattern k in
    same-true (bits_of_byte (pattern / 2 ^ bit) ++ bits_of_byte (pattern * 2 ^ (8 - bit) % 256)) (zeros bit ++ bits_of_byte pattern ++ zeros (8 - bit)) t

zeros-append : (m n : ℕ) → zeros m ++ zeros n ≡ zeros (m + n)
zeros-append m n = replicate-append-replicate m n false

-- the flip of zeros by nothing
flipped_zeros-none : (n bit : ℕ) → flipped_zeros n bit 0 ≡ replicate n 0
flipped_zeros-none zero bit = refl
flipped_zeros-none (suc n) bit =
    let here : 0 / 2 ^ bit ≡ 0 = zero-div (2 ^ bit) in
    let rest : 0 * 2 ^ (8 - bit) % 256 ≡ 0 = ap (λ x. x % 256) (zero-mul (2 ^ (8 - bit))) in
    rw (here, rest) (ap (λ l. 0 ∷ l) (flipped_zeros-none n (bit - 8)))

bits_of-zeros : (n : ℕ) → bits_of (replicate n 0) ≡ zeros (8 * n)
bits_of-zeros zero = refl
bits_of-zeros (suc n) = let e : 8 * suc n ≡ 8 + 8 * n = omega arith in ap (λ l. zeros 8 ++ l) (bits_of-zeros n) ∙ zeros-append 8 (8 * n) ∙ sym (ap zeros e)

-- a burst that begins in a later byte
later : (n k pattern : ℕ) → pattern < 256 → bits_of (flipped_zeros n k pattern) ≡ burst (8 * n) k pattern → bits_of (flipped_zeros (suc n) (8 + k) pattern) ≡ burst (8 * suc n) (8 + k) pattern
later n k pattern h rest =
    let wide : 2 ^ 8 ≤ 2 ^ (8 + k) = pow_mono {i = 8} {j = 8 + k} (omega arith) in
    let here : pattern / 2 ^ (8 + k) ≡ 0 = div-eq_of_lt (omega arith) in
    let back : 8 + k - 8 ≡ k = omega arith in
    let none : 8 - (8 + k) ≡ 0 = omega arith in
    let all : pattern * 2 ^ 0 % 256 ≡ pattern = omega arith in
    let room : 8 * suc n - (8 + k + 8) ≡ 8 * n - (k + 8) = omega arith in
    let begin : zeros (8 + k) ≡ zeros 8 ++ zeros k = sym (zeros-append 8 k) in
    let b = bits_of_byte pattern in
    rw (here, back, none, all, rest, room, begin)
    (sym (ap (λ l. l ++ zeros (8 * n - (k + 8))) (append_assoc (zeros 8) (zeros k) b) ∙ append_assoc (zeros 8) (zeros k ++ b) (zeros (8 * n - (k + 8)))))

-- a burst that begins in this byte, and one that fills it
here_alone : (pattern : ℕ) → bits_of (flipped_zeros 1 0 pattern) ≡ burst 8 0 pattern
here_alone pattern =
    let all : pattern / 2 ^ 0 ≡ pattern = omega arith in
    ap (λ x. bits_of_byte x ++ []) all

here_and_next : (n bit pattern : ℕ) → bit < 8 → pattern < 256 → bits_of (flipped_zeros (suc (suc n)) bit pattern) ≡ burst (8 * suc (suc n)) bit pattern
here_and_next n bit pattern h k =
    let first : bit - 8 ≡ 0 = omega arith in
    let rest = pattern * 2 ^ (8 - bit) % 256 in
    let all : rest / 2 ^ 0 ≡ rest = omega arith in
    let gone : rest * 2 ^ 8 % 256 ≡ 0 = omega arith in
    let zeros_after : bits_of (flipped_zeros n 0 0) ≡ zeros (8 * n) = ap bits_of (flipped_zeros-none n 0) ∙ bits_of-zeros n in
    let room : 8 * suc (suc n) - (bit + 8) ≡ (8 - bit) + 8 * n = omega arith in
    let here = bits_of_byte (pattern / 2 ^ bit) in
    let next = bits_of_byte rest in
    rw (first, all, gone, zeros_after, room)
    (sym (append_assoc here next (zeros (8 * n)))
    ∙ ap (λ l. l ++ zeros (8 * n)) (two_bytes bit pattern h k)
    ∙ append_assoc (zeros bit ++ bits_of_byte pattern) (zeros (8 - bit)) (zeros (8 * n))
    ∙ ap (λ l. (zeros bit ++ bits_of_byte pattern) ++ l) (zeros-append (8 - bit) (8 * n)))

-- the flip of zeros has the pattern's bits from that bit on
pub bits_of-burst : (n bit pattern : ℕ) → pattern < 256 → bit + 8 ≤ 8 * n → bits_of (flipped_zeros n bit pattern) ≡ burst (8 * n) bit pattern
bits_of-burst zero bit pattern h k = absurd (omega arith)
bits_of-burst (suc n) bit pattern h k = by (nat_lt bit 8) refl n k (bits_of-burst n (bit - 8) pattern h)
  where
    by : (t : Bool) → nat_lt bit 8 ≡ t → (n : ℕ) → bit + 8 ≤ 8 * suc n → (bit - 8 + 8 ≤ 8 * n → bits_of (flipped_zeros n (bit - 8) pattern) ≡ burst (8 * n) (bit - 8) pattern) → bits_of (flipped_zeros (suc n) bit pattern) ≡ burst (8 * suc n) bit pattern
    by true e zero k rest =
        let first : bit ≡ 0 = grind (arith, nat_tests) in
        subst (λ b. bits_of (flipped_zeros 1 b pattern) ≡ burst 8 b pattern) (sym first) (here_alone pattern)
    by true e (suc n) k rest = let low : bit < 8 = grind (arith, nat_tests) in here_and_next n bit pattern low h
    by false e n k rest =
        let high : 8 ≤ bit = grind (arith, nat_tests) in
        let whole : 8 + (bit - 8) ≡ bit = omega arith in
        subst (λ b. bits_of (flipped_zeros (suc n) b pattern) ≡ burst (8 * suc n) b pattern) whole (later n (bit - 8) pattern h (rest (omega arith)))

-- the bits of a flipped packet are its bits, with the burst added
pub flips_bits : (bytes : List ℕ) (bit pattern : ℕ) → pattern < 256 → bit + 8 ≤ 8 * length bytes → bits_of (flipped bytes bit pattern) ≡ xor_bits (bits_of bytes) (burst (8 * length bytes) bit pattern)
flips_bits bytes bit pattern h k = bits_of-flipped bytes bit pattern ∙ ap (xor_bits (bits_of bytes)) (bits_of-burst (length bytes) bit pattern h k)

length-burst : (n bit pattern : ℕ) → bit + 8 ≤ n → length (burst n bit pattern) ≡ n
length-burst n bit pattern h =
    let b = bits_of_byte pattern in
    let m = n - (bit + 8) in
    let front : length (zeros bit ++ b) ≡ length (zeros bit) + 8 = length-append (zeros bit) b in
    let whole : length ((zeros bit ++ b) ++ zeros m) ≡ length (zeros bit ++ b) + length (zeros m) = length-append (zeros bit ++ b) (zeros m) in
    let one : length (zeros bit) ≡ bit = length-replicate {A = Bool} bit false in
    let two : length (zeros m) ≡ m = length-replicate {A = Bool} m false in
    omega (arith, front, whole, one, two)

-- a burst is no multiple of the divisor
left-burst : (n bit pattern : ℕ) → pattern < 256 → 0 < pattern → 0 < left 0 (burst n bit pattern)
left-burst n bit pattern h k =
    let b = bits_of_byte pattern in
    let e : left 0 (zeros bit ++ b) ≡ pattern = left-append 0 (zeros bit) b ∙ ap (λ r. left r b) (left-zeros bit) ∙ left-byte pattern h in
    subst (λ x. 0 < x) (sym (left-append 0 (zeros bit ++ b) (zeros (n - (bit + 8))) ∙ ap (λ r. left r (zeros (n - (bit + 8)))) e)) (left-zeros_nonzero (n - (bit + 8)) pattern h k)

-- the last byte of a flipped packet is a byte
record Last (bytes : List ℕ) (last : ℕ) : Type 0 where
  front : List ℕ
  mask : ℕ
  low : mask < 256
  whole : bytes ≡ front ++ bit_xor last mask ∷ []

flipped-push : (front : List ℕ) (last bit pattern : ℕ) → pattern < 256 → Last (flipped (front ++ last ∷ []) bit pattern) last
flipped-push [] last bit pattern h = record { front = []; mask = pattern / 2 ^ bit; low = lt_of_le_of_lt (div-le_self pattern (2 ^ bit)) h; whole = refl }
flipped-push (byte ∷ front) last bit pattern h =
    let rest = pattern * 2 ^ (8 - bit) % 256 in
    let r = flipped-push front last (bit - 8) rest (omega arith) in
    record { front = bit_xor byte (pattern / 2 ^ bit) ∷ r.front; mask = r.mask; low = r.low; whole = ap (λ l. bit_xor byte (pattern / 2 ^ bit) ∷ l) r.whole }

-- a packet whose CRC is a byte: its difference is what is left of all its bits
difference-left : (wire front : List ℕ) (last : ℕ) → wire ≡ front ++ last ∷ [] → last < 256 → difference wire ≡ left 0 (bits_of wire)
difference-left wire front last e h = subst (λ w. difference w ≡ left 0 (bits_of w)) (sym e) (difference-push front last ∙ crc-left front last h)

-- a sum that is nothing is of two equal ones
same_of_none : (a b : ℕ) → bit_xor a b ≡ 0 → a ≡ b
same_of_none a b e = sym (xor_twice a b) ∙ ap (λ x. bit_xor x b) e

-- one burst is seen
pub flip-seen : (wire : List ℕ) (bit pattern : ℕ) → difference wire ≡ 0 → 0 < pattern → pattern < 256 → bit + 8 ≤ 8 * length wire → 0 < difference (flipped wire bit pattern)
flip-seen wire bit pattern none h k room =
    let e = ended_wire wire (omega arith) in
    let due : e.last ≡ crc e.front = same_of_none e.last (crc e.front) (sym (difference-push e.front e.last) ∙ ap difference (sym e.whole) ∙ none) in
    let byte : e.last < 256 = subst (λ x. x < 256) (sym due) (crc-lt e.front) in
    let f : Last (flipped wire bit pattern) e.last = subst (λ w. Last (flipped w bit pattern) e.last) (sym e.whole) (flipped-push e.front e.last bit pattern k) in
    let before : left 0 (bits_of wire) ≡ 0 = sym (difference-left wire e.front e.last e.whole byte) ∙ none in
    let after : difference (flipped wire bit pattern) ≡ left 0 (bits_of (flipped wire bit pattern)) =
    difference-left (flipped wire bit pattern) f.front (bit_xor e.last f.mask) f.whole (xor_of_8 e.last f.mask byte f.low) in
    let b = burst (8 * length wire) bit pattern in
    let same : length (bits_of wire) ≡ length b = length-bits_of wire ∙ sym (length-burst (8 * length wire) bit pattern room) in
    let sum : left 0 (xor_bits (bits_of wire) b) ≡ bit_xor (left 0 (bits_of wire)) (left 0 b) = left-xor 0 0 (bits_of wire) b (omega arith) (omega arith) same in
    let all : difference (flipped wire bit pattern) ≡ left 0 b = after ∙ ap (left 0) (flips_bits wire bit pattern k room) ∙ sum ∙ ap (λ x. bit_xor x (left 0 b)) before in
    subst (λ x. 0 < x) (sym all) (left-burst (8 * length wire) bit pattern k h)
