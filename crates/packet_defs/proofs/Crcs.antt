-- The CRC of sums of bytes, and of a byte in front.
use Rattle.std.proofs.Common.{◌≡◌, ◌<◌, ◌+◌, ◌*◌, ◌/◌, ◌%◌, ◌^◌, ℕ, zero, suc, false, nat_eq, List, [], ◌∷◌, ◌++◌, length, replicate, refl, sym, ap, ◌∙◌, arith, append_assoc}
use Rattle.std.proofs.lemmas.List.{length-append, length-replicate, replicate-append-replicate}
use Rattle.std.proofs.lemmas.Nat.Bits.{bit_at_xor}
use Rattle.std.proofs.lemmas.Nat.{xor_comm, xor_of_8}
use Rattle.std.specs.Int.Bits.{bit_xor, xor_zero_r}
use Rattle.packet_defs.specs.Bits.{is_set, bits_of_byte, bits_of, zeros}
use Rattle.packet_defs.specs.Burst.{differ, xor_bits}
use Rattle.packet_defs.specs.Crc.{crc, contribution, xor_bytes}
use Rattle.packet_defs.proofs.Folding.{left, left-append, left-lt, left-xor, xor_bits-append, xor_bits-zeros}
use Rattle.packet_defs.proofs.Checking.{left-byte, left-period}

-- a bit of a sum
odd-sum : (a b : ℕ) → a < 2 → b < 2 → nat_eq ((a + b) % 2) 1 ≡ differ (nat_eq a 1) (nat_eq b 1)
odd-sum zero zero h k = refl
odd-sum zero (suc zero) h k = refl
odd-sum zero (suc (suc b)) h k = absurd (omega arith)
odd-sum (suc zero) zero h k = refl
odd-sum (suc zero) (suc zero) h k = refl
odd-sum (suc zero) (suc (suc b)) h k = absurd (omega arith)
odd-sum (suc (suc a)) b h k = absurd (omega arith)

pub is_set-xor : (a b k : ℕ) → is_set (bit_xor a b) k ≡ differ (is_set a k) (is_set b k)
is_set-xor a b k = ap (λ n. nat_eq n 1) (bit_at_xor a b k) ∙ odd-sum (a / 2 ^ k % 2) (b / 2 ^ k % 2) (omega arith) (omega arith)

pub bits_of_byte-xor : (a b : ℕ) → bits_of_byte (bit_xor a b) ≡ xor_bits (bits_of_byte a) (bits_of_byte b)
bits_of_byte-xor a b = rw (is_set-xor a b 7, is_set-xor a b 6, is_set-xor a b 5, is_set-xor a b 4, is_set-xor a b 3, is_set-xor a b 2, is_set-xor a b 1, is_set-xor a b 0) refl

pub length-bits_of : (bytes : List ℕ) → length (bits_of bytes) ≡ 8 * length bytes
length-bits_of [] = refl
length-bits_of (b ∷ bytes) = let e = length-bits_of bytes in omega (arith, e, length-append (bits_of_byte b) (bits_of bytes))

pub bits_of-append : (xs ys : List ℕ) → bits_of (xs ++ ys) ≡ bits_of xs ++ bits_of ys
bits_of-append [] ys = refl
bits_of-append (x ∷ xs) ys = ap (λ l. bits_of_byte x ++ l) (bits_of-append xs ys) ∙ sym (append_assoc (bits_of_byte x) (bits_of xs) (bits_of ys))

pub bits_of-xor : (xs ys : List ℕ) → length xs ≡ length ys → bits_of (xor_bytes xs ys) ≡ xor_bits (bits_of xs) (bits_of ys)
bits_of-xor [] ys e = refl
bits_of-xor (x ∷ xs) [] e = absurd (omega (arith, e))
bits_of-xor (x ∷ xs) (y ∷ ys) e =
    let same : length xs ≡ length ys = omega (arith, e) in
    ap (λ l. l ++ bits_of (xor_bytes xs ys)) (bits_of_byte-xor x y)
    ∙ ap (λ l. xor_bits (bits_of_byte x) (bits_of_byte y) ++ l) (bits_of-xor xs ys same)
    ∙ sym (xor_bits-append (bits_of_byte x) (bits_of_byte y) (bits_of xs) (bits_of ys) refl)

same_bits : (xs ys : List ℕ) → length xs ≡ length ys → length (bits_of xs) ≡ length (bits_of ys)
same_bits xs ys e = length-bits_of xs ∙ ap (λ n. 8 * n) e ∙ sym (length-bits_of ys)

pub crc-lt : (bytes : List ℕ) → crc bytes < 256
crc-lt bytes = left-lt 0 (bits_of bytes ++ zeros 8) (omega arith)

-- the CRC of a sum is the sum
pub crc-xor : (xs ys : List ℕ) → length xs ≡ length ys → crc (xor_bytes xs ys) ≡ bit_xor (crc xs) (crc ys)
crc-xor xs ys e =
    let same = same_bits xs ys e in
    let long : length (bits_of xs ++ zeros 8) ≡ length (bits_of ys ++ zeros 8) = omega (arith, same, length-append (bits_of xs) (zeros 8), length-append (bits_of ys) (zeros 8)) in
    ap (λ l. left 0 (l ++ zeros 8)) (bits_of-xor xs ys e)
    ∙ ap (left 0) (sym (xor_bits-append (bits_of xs) (bits_of ys) (zeros 8) (zeros 8) same))
    ∙ left-xor 0 0 (bits_of xs ++ zeros 8) (bits_of ys ++ zeros 8) (omega arith) (omega arith) long

-- a sum with nothing
xor_bytes-zeros : (xs : List ℕ) → xor_bytes (replicate (length xs) 0) xs ≡ xs
xor_bytes-zeros [] = refl
xor_bytes-zeros (x ∷ xs) = ap (λ l. x ∷ l) (xor_bytes-zeros xs)

-- the CRC of a byte in front of others
pub crc-front : (byte : ℕ) (rest : List ℕ) → crc (byte ∷ rest) ≡ bit_xor (contribution byte (length rest)) (crc rest)
crc-front byte rest =
    let same : length (byte ∷ replicate (length rest) 0) ≡ length (0 ∷ rest) = omega (arith, length-replicate {A = ℕ} (length rest) 0) in
    sym (ap crc (λ i. xor_zero_r byte i ∷ xor_bytes-zeros rest i))
    ∙ crc-xor (byte ∷ replicate (length rest) 0) (0 ∷ rest) same

-- the CRC with a byte added to it is what is left of the bytes and that byte
pub crc-left : (bytes : List ℕ) (byte : ℕ) → byte < 256 → bit_xor byte (crc bytes) ≡ left 0 (bits_of (bytes ++ byte ∷ []))
crc-left bytes byte h =
    let r = left 0 (bits_of bytes) in
    let before : crc bytes ≡ left r (zeros 8) = left-append 0 (bits_of bytes) (zeros 8) in
    let whole : left 0 (bits_of (bytes ++ byte ∷ [])) ≡ left r (bits_of_byte byte) = ap (left 0) (bits_of-append bytes (byte ∷ [])) ∙ left-append 0 (bits_of bytes) (bits_of_byte byte) in
    let both : left (bit_xor 0 r) (xor_bits (bits_of_byte byte) (zeros 8)) ≡ bit_xor (left 0 (bits_of_byte byte)) (left r (zeros 8)) =
    left-xor 0 r (bits_of_byte byte) (zeros 8) (omega arith) (left-lt 0 (bits_of bytes) (omega arith)) refl in
    sym (ap (λ x. bit_xor x (crc bytes)) (left-byte byte h)) ∙ ap (bit_xor (left 0 (bits_of_byte byte))) before
    ∙ sym both ∙ ap (left r) (xor_bits-zeros (bits_of_byte byte) 8 refl) ∙ sym whole

-- the CRC after one byte more is that of one byte: the CRC before, with that byte added
pub crc-push : (bytes : List ℕ) (byte : ℕ) → byte < 256 → crc (bytes ++ byte ∷ []) ≡ crc (bit_xor (crc bytes) byte ∷ [])
crc-push bytes byte h =
    let x = bit_xor (crc bytes) byte in
    let small : x < 256 = xor_of_8 (crc bytes) byte (crc-lt bytes) h in
    let here : left 0 (bits_of (bytes ++ byte ∷ [])) ≡ left 0 (bits_of_byte x) = sym (crc-left bytes byte h) ∙ xor_comm byte (crc bytes) ∙ sym (left-byte x small) in
    left-append 0 (bits_of (bytes ++ byte ∷ [])) (zeros 8) ∙ ap (λ n. left n (zeros 8)) here ∙ sym (left-append 0 (bits_of_byte x) (zeros 8))

-- 127 zero bytes leave a remainder as it is: the least power of x that leaves 1 is the 127th
turn_round : (k r : ℕ) → r < 256 → left r (zeros (k * 127)) ≡ r
turn_round zero r h = refl
turn_round (suc k) r h =
    let e : suc k * 127 ≡ 127 + k * 127 = omega arith in
    ap (λ n. left r (zeros n)) e ∙ ap (left r) (sym (replicate-append-replicate 127 (k * 127) false)) ∙ left-append r (zeros 127) (zeros (k * 127))
    ∙ ap (λ x. left x (zeros (k * 127))) (left-period r h) ∙ turn_round k r h

-- the contribution repeats
pub contribution-period : (byte places : ℕ) → contribution byte (127 + places) ≡ contribution byte places
contribution-period byte places =
    let b = bits_of_byte byte in
    let r = left 0 b in
    let small : r < 256 = left-lt 0 b (omega arith) in
    let apart : replicate (127 + places) 0 ≡ replicate 127 0 ++ replicate places 0 = sym (replicate-append-replicate 127 places 0) in
    let rest = bits_of (replicate places 0) ++ zeros 8 in
    let long : bits_of (replicate (127 + places) 0) ++ zeros 8 ≡ zeros (8 * 127) ++ rest =
    ap (λ l. bits_of l ++ zeros 8) apart ∙ ap (λ l. l ++ zeros 8) (bits_of-append (replicate 127 0) (replicate places 0)) ∙ append_assoc (zeros (8 * 127)) (bits_of (replicate places 0)) (zeros 8) in
    ap (left 0) (append_assoc b (bits_of (replicate (127 + places) 0)) (zeros 8) ∙ ap (λ l. b ++ l) long)
    ∙ left-append 0 b (zeros (8 * 127) ++ rest)
    ∙ left-append r (zeros (8 * 127)) rest
    ∙ ap (λ x. left x rest) (turn_round 8 r small)
    ∙ sym (left-append 0 b rest)
    ∙ sym (ap (left 0) (append_assoc b (bits_of (replicate places 0)) (zeros 8)))
