-- Bytes cut into slices and blocks: the CRC after one more, and the sum of two blocks.
use Rattle.std.proofs.Common.{◌≡◌, ◌<◌, ◌+◌, ◌-◌, ◌*◌, ℕ, zero, suc, false, List, [], ◌∷◌, ◌++◌, length, get_or, set, take, drop, replicate, add-one, refl, sym, ap, ◌∙◌, arith, append_assoc, take-add}
use Rattle.std.proofs.lemmas.List.{length-append, length-replicate, length-drop, replicate-append-replicate, drop-drop, drop_more}
use Rattle.std.specs.Simd.{first_chunks}
use Rattle.std.specs.Int.Bits.{bit_xor, xor_assoc, xor_zero_r}
use Rattle.packet_defs.specs.Bits.{bits_of, zeros}
use Rattle.packet_defs.specs.Crc.{crc, contribution, xor_bytes}
use Rattle.packet_defs.proofs.Crcs.{bits_of-append, crc-xor, crc-front, crc-lt}
use Rattle.packet_defs.proofs.Folding.{left, left-append, left-zeros}
use Rattle.crc_eight.proofs.Powers.{zero_bits, left_at, round}

-- zero bytes in front add nothing
pub crc-zeros_before : (n : ℕ) (bytes : List ℕ) → crc (replicate n 0 ++ bytes) ≡ crc bytes
crc-zeros_before n bytes =
    ap (λ l. left 0 (l ++ zeros 8)) (bits_of-append (replicate n 0) bytes ∙ ap (λ l. l ++ bits_of bytes) (zero_bits n))
    ∙ ap (left 0) (append_assoc (zeros (8 * n)) (bits_of bytes) (zeros 8))
    ∙ left-append 0 (zeros (8 * n)) (bits_of bytes ++ zeros 8)
    ∙ ap (λ r. left r (bits_of bytes ++ zeros 8)) (left-zeros (8 * n))

either_way : (n : ℕ) → zeros n ++ zeros 8 ≡ zeros 8 ++ zeros n
either_way n =
    let e : n + 8 ≡ 8 + n = omega arith in
    replicate-append-replicate n 8 false ∙ ap zeros e ∙ sym (replicate-append-replicate 8 n false)

-- zero bytes leave after a byte what their bits leave
crc-zeros_after : (bytes : List ℕ) (n : ℕ) → crc (bytes ++ replicate n 0) ≡ left (crc bytes) (zeros (8 * n))
crc-zeros_after bytes n =
    let b = bits_of bytes in
    ap (λ l. left 0 (l ++ zeros 8)) (bits_of-append bytes (replicate n 0) ∙ ap (λ l. b ++ l) (zero_bits n))
    ∙ ap (left 0) (append_assoc b (zeros (8 * n)) (zeros 8))
    ∙ ap (λ l. left 0 (b ++ l)) (either_way (8 * n))
    ∙ ap (left 0) (sym (append_assoc b (zeros 8) (zeros (8 * n))))
    ∙ left-append 0 (b ++ zeros 8) (zeros (8 * n))

zeros_sum : (xs : List ℕ) → xor_bytes (replicate (length xs) 0) xs ≡ xs
zeros_sum [] = refl
zeros_sum (x ∷ xs) = ap (λ l. x ∷ l) (zeros_sum xs)

sum_of_parts : (front rest : List ℕ) → xor_bytes (front ++ replicate (length rest) 0) (replicate (length front) 0 ++ rest) ≡ front ++ rest
sum_of_parts [] rest = zeros_sum rest
sum_of_parts (x ∷ front) rest = λ i. xor_zero_r x i ∷ sum_of_parts front rest i

-- the CRC of bytes after others
pub crc-append : (front rest : List ℕ) → crc (front ++ rest) ≡ bit_xor (left (crc front) (zeros (8 * length rest))) (crc rest)
crc-append front rest =
    let n = length rest in
    let m = length front in
    let one : length (front ++ replicate n 0) ≡ m + n = length-append front (replicate n 0) ∙ ap (λ k. m + k) (length-replicate {A = ℕ} n 0) in
    let other : length (replicate m 0 ++ rest) ≡ m + n = length-append (replicate m 0) rest ∙ ap (λ k. k + n) (length-replicate {A = ℕ} m 0) in
    sym (ap crc (sum_of_parts front rest))
    ∙ crc-xor (front ++ replicate n 0) (replicate m 0 ++ rest) (one ∙ sym other)
    ∙ ap (λ x. bit_xor x (crc (replicate m 0 ++ rest))) (crc-zeros_after front n)
    ∙ ap (bit_xor (left (crc front) (zeros (8 * n)))) (crc-zeros_before m rest)

-- the CRC after a slice, from the CRC before it
crc-slice : (front slice : List ℕ) → 0 < length slice → crc (front ++ slice) ≡ bit_xor (contribution (crc front) (length slice - 1)) (crc slice)
crc-slice front slice h =
    let e : length slice ≡ length slice - 1 + 1 = omega arith in
    crc-append front slice
    ∙ ap (λ x. bit_xor x (crc slice)) (ap (λ k. left (crc front) (zeros (8 * k))) e
    ∙ sym (left_at (crc front) (length slice - 1) (crc-lt front)))

-- one byte more of a slice: what the bytes so far add and the CRC of the others stay the slice's CRC
pub byte-added :
    (slice : List ℕ) (i sum part whole : ℕ) → i < length slice → part ≡ contribution (get_or slice i 0) (length slice - 1 - i)
    → bit_xor sum (crc (drop i slice)) ≡ whole → bit_xor (bit_xor sum part) (crc (drop (i + 1) slice)) ≡ whole
byte-added slice i sum part whole h p inv =
    let g = get_or slice i 0 in
    let r = drop (i + 1) slice in
    let long : length slice - 1 - i ≡ length r = omega (arith, length-drop (i + 1) slice) in
    xor_assoc sum part (crc r)
    ∙ ap (bit_xor sum) (ap (λ x. bit_xor x (crc r)) (p ∙ ap (contribution g) long)
    ∙ sym (crc-front g r) ∙ sym (ap crc (drop_more slice i 0 h)))
    ∙ inv

-- what the block at a place holds
block-is : (n k : ℕ) (xs : List ℕ) (i : ℕ) (d : List ℕ) → i < k → get_or (first_chunks n k xs) i d ≡ take n (drop (n * i) xs)
block-is n zero xs i d h = absurd (omega arith)
block-is n (suc k) xs zero d h = let e : n * 0 ≡ 0 = omega arith in sym (ap (λ m. take n (drop m xs)) e)
block-is n (suc k) xs (suc i) d h =
    let few : i < k = omega arith in
    let e : n + n * i ≡ n * suc i = omega arith in
    block-is n k (drop n xs) i d few ∙ ap (take n) (drop-drop (n * i) n xs ∙ ap (λ m. drop m xs) e)

-- the bytes up to a block's end
block-ends :
    (n k a : ℕ) (bytes : List ℕ) (i : ℕ) (d : List ℕ) → i < k
    → take (a + n * (i + 1)) bytes ≡ take (a + n * i) bytes ++ get_or (first_chunks n k (drop a bytes)) i d
block-ends n k a bytes i d h =
    let e : a + n * (i + 1) ≡ a + n * i + n = omega arith in
    ap (λ m. take m bytes) e
    ∙ take-add (a + n * i) n bytes
    ∙ ap (λ l. take (a + n * i) bytes ++ l) (ap (take n) (sym (drop-drop (n * i) a bytes))
    ∙ sym (block-is n k (drop a bytes) i d h))

-- one slice more
pub slice-taken :
    (n k a : ℕ) (bytes : List ℕ) (i : ℕ) (d slice : List ℕ) (check after : ℕ) → i < k
    → slice ≡ get_or (first_chunks n k (drop a bytes)) i d → 0 < length slice → check ≡ crc (take (a + n * i) bytes)
    → after ≡ bit_xor (contribution check (length slice - 1)) (crc slice) → after ≡ crc (take (a + n * (i + 1)) bytes)
slice-taken n k a bytes i d slice check after h s some e f =
    f
    ∙ ap (λ x. bit_xor (contribution x (length slice - 1)) (crc slice)) e
    ∙ sym (crc-slice (take (a + n * i) bytes) slice some)
    ∙ ap (λ l. crc (take (a + n * i) bytes ++ l)) s
    ∙ sym (ap crc (block-ends n k a bytes i d h))

-- one block more, whose bits are a multiple of 127: it is added to the sum of those before
pub block-added :
    (n k a : ℕ) (bytes : List ℕ) (i : ℕ) (d block sum after : List ℕ) (turns : ℕ) → i < k
    → block ≡ get_or (first_chunks n k (drop a bytes)) i d → 8 * length block ≡ turns * 127 → length sum ≡ length block
    → crc sum ≡ crc (take (a + n * i) bytes) → after ≡ xor_bytes sum block → crc after ≡ crc (take (a + n * (i + 1)) bytes)
block-added n k a bytes i d block sum after turns h s whole same e f =
    let front = take (a + n * i) bytes in
    let turned : 8 * length block ≡ turns * 127 + 0 = omega arith in
    ap crc f
    ∙ crc-xor sum block same
    ∙ ap (λ x. bit_xor x (crc block)) (e
    ∙ sym (ap (λ j. left (crc front) (zeros j)) turned ∙ round turns (crc front) 0 (crc-lt front)))
    ∙ sym (crc-append front block)
    ∙ ap (λ l. crc (front ++ l)) s
    ∙ sym (ap crc (block-ends n k a bytes i d h))

-- the sum of the first bytes of two blocks, and the other bytes of the first
abbrev pub summed : ℕ → List ℕ → List ℕ → List ℕ
summed (suc i) (x ∷ xs) (y ∷ ys) = bit_xor x y ∷ summed i xs ys
summed _ xs _ = xs

pub summed-more :
    (i : ℕ) (xs ys : List ℕ) → i < length xs → length xs ≡ length ys
    → set (summed i xs ys) i (bit_xor (get_or (summed i xs ys) i 0) (get_or ys i 0)) ≡ summed (i + 1) xs ys
summed-more i xs ys h same = next i xs ys h same ∙ ap (λ n. summed n xs ys) (sym (add-one i))
  where
    next :
        (i : ℕ) (xs ys : List ℕ) → i < length xs → length xs ≡ length ys
        → set (summed i xs ys) i (bit_xor (get_or (summed i xs ys) i 0) (get_or ys i 0)) ≡ summed (suc i) xs ys
    next i [] ys h same = absurd (omega arith)
    next i (x ∷ xs) [] h same = absurd (omega arith)
    next zero (x ∷ xs) (y ∷ ys) h same = refl
    next (suc i) (x ∷ xs) (y ∷ ys) h same = ap (λ l. bit_xor x y ∷ l) (next i xs ys (omega arith) (omega arith))

pub summed-all : (xs ys : List ℕ) → length xs ≡ length ys → summed (length xs) xs ys ≡ xor_bytes xs ys
summed-all [] ys same = refl
summed-all (x ∷ xs) [] same = absurd (omega arith)
summed-all (x ∷ xs) (y ∷ ys) same = ap (λ l. bit_xor x y ∷ l) (summed-all xs ys (omega arith))
