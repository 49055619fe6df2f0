-- The powers of x, and what is left of a byte with zeros after it.
use Rattle.std.proofs.Common.{◌≡◌, ◌<◌, ◌+◌, ◌*◌, ◌/◌, ◌%◌, ℕ, zero, suc, false, ◌∷◌, ◌++◌, replicate, refl, sym, ap, ◌∙◌, arith, append_assoc}
use Rattle.std.proofs.lemmas.List.{replicate-append-replicate}
use Rattle.packet_defs.specs.Bits.{bits_of_byte, bits_of, zeros}
use Rattle.packet_defs.specs.Crc.{contribution}
use Rattle.packet_defs.proofs.Crcs.{contribution-period, crc-lt}
use Rattle.packet_defs.proofs.Checking.{left-byte, left-period}
use Rattle.packet_defs.proofs.Folding.{left, left-append}

-- the zeros go round after 127
pub round : (k r n : ℕ) → r < 256 → left r (zeros (k * 127 + n)) ≡ left r (zeros n)
round zero r n h = let e : zero * 127 + n ≡ n = omega arith in ap (λ x. left r (zeros x)) e
round (suc k) r n h =
    let e : suc k * 127 + n ≡ 127 + (k * 127 + n) = omega arith in
    ap (λ x. left r (zeros x)) e ∙ ap (left r) (sym (replicate-append-replicate 127 (k * 127 + n) false)) ∙ left-append r (zeros 127) (zeros (k * 127 + n))
    ∙ ap (λ x. left x (zeros (k * 127 + n))) (left-period r h) ∙ round k r n h

pub zero_bits : (n : ℕ) → bits_of (replicate n 0) ≡ zeros (8 * n)
zero_bits zero = refl
zero_bits (suc n) =
    let e : 8 * suc n ≡ 8 + 8 * n = omega arith in ap (λ l. zeros 8 ++ l) (zero_bits n) ∙ replicate-append-replicate 8 (8 * n) false ∙ sym (ap zeros e)

cycles : (k byte n : ℕ) → contribution byte (k * 127 + n) ≡ contribution byte n
cycles zero byte n = let e : zero * 127 + n ≡ n = omega arith in ap (contribution byte) e
cycles (suc k) byte n = let e : suc k * 127 + n ≡ 127 + (k * 127 + n) = omega arith in ap (contribution byte) e ∙ contribution-period byte (k * 127 + n) ∙ cycles k byte n

pub left_at : (byte n : ℕ) → byte < 256 → contribution byte n ≡ left byte (zeros (8 * (n + 1)))
left_at byte n h =
    let e : 8 * (n + 1) ≡ 8 * n + 8 = omega arith in
    ap (left 0) (append_assoc (bits_of_byte byte) (bits_of (replicate n 0)) (zeros 8))
    ∙ left-append 0 (bits_of_byte byte) (bits_of (replicate n 0) ++ zeros 8)
    ∙ ap (λ x. left x (bits_of (replicate n 0) ++ zeros 8)) (left-byte byte h)
    ∙ ap (λ l. left byte (l ++ zeros 8)) (zero_bits n)
    ∙ ap (left byte) (replicate-append-replicate (8 * n) 8 false ∙ sym (ap zeros e))

-- a contribution goes round after 127 places
pub contribution-round : (byte n : ℕ) → contribution byte (n % 127) ≡ contribution byte n
contribution-round byte n =
    let e : n / 127 * 127 + n % 127 ≡ n = omega arith in
    sym (cycles (n / 127) byte (n % 127)) ∙ ap (contribution byte) e

-- what a byte adds over some places adds over further ones what the byte does over all
pub contribution-further : (byte m n : ℕ) → byte < 256 → contribution (contribution byte m) n ≡ contribution byte (m + 1 + n)
contribution-further byte m n h =
    let all : 8 * (m + 1) + 8 * (n + 1) ≡ 8 * (m + 1 + n + 1) = omega arith in
    left_at (contribution byte m) n (crc-lt (byte ∷ replicate m 0))
    ∙ ap (λ r. left r (zeros (8 * (n + 1)))) (left_at byte m h)
    ∙ sym (left-append byte (zeros (8 * (m + 1))) (zeros (8 * (n + 1))))
    ∙ ap (left byte) (replicate-append-replicate (8 * (m + 1)) (8 * (n + 1)) false ∙ ap zeros all)
    ∙ sym (left_at byte (m + 1 + n) h)
