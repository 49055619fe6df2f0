-- A packet's bytes from its head and the difference of its CRC, and what a strip and a flip leave of them.
use Rattle.std.proofs.Common.{◌≡◌, ◌<◌, ◌≤◌, ℕ, zero, suc, List, [], ◌∷◌, ◌++◌, length, drop, refl, sym, ap, ◌∙◌, arith}
use Rattle.std.specs.Int.Bits.{bit_xor, xor_assoc}
use Rattle.std.proofs.lemmas.Nat.{xor_comm}
use Rattle.packet_defs.specs.Crc.{crc, contribution}
use Rattle.packet_defs.specs.Packet.{head, crc_byte, difference, stripped, with_crc}
use Rattle.packet_defs.specs.Burst.{masked}
use Rattle.packet_defs.proofs.Reduced.{xor_twice}
use Rattle.packet_defs.proofs.Crcs.{crc-front}
use Rattle.packet_defs.proofs.Packets.{head-push, crc_byte-push, difference-push, stripped-push}
use Rattle.myri_packet.specs.Kept.{wire_of}

pub wire_of-head : (h : List ℕ) (d : ℕ) → head (wire_of h d) ≡ h
wire_of-head h d = head-push h (bit_xor (crc h) d)

pub wire_of-check : (h : List ℕ) (d : ℕ) → crc_byte (wire_of h d) ≡ bit_xor (crc h) d
wire_of-check h d = crc_byte-push h (bit_xor (crc h) d)

pub wire_of-difference : (h : List ℕ) (d : ℕ) → difference (wire_of h d) ≡ d
wire_of-difference h d =
    difference-push h (bit_xor (crc h) d) ∙ ap (λ x. bit_xor x (crc h)) (xor_comm (crc h) d) ∙ xor_twice d (crc h)

-- the CRC that is there is had back from its difference
pub checked : (h : List ℕ) (check : ℕ) → wire_of h (bit_xor check (crc h)) ≡ h ++ check ∷ []
checked h check = ap (λ x. h ++ x ∷ []) (xor_comm (crc h) (bit_xor check (crc h)) ∙ xor_twice check (crc h))

-- without a difference it is the one that is due
pub due : (h : List ℕ) → wire_of h 0 ≡ with_crc h
due h = ap (λ x. h ++ x ∷ []) (xor_comm (crc h) 0)

-- a byte that is left off in front, whose contribution both CRCs lose
front_off : (byte : ℕ) (h : List ℕ) (d : ℕ) → wire_of h d ≡ stripped (wire_of (byte ∷ h) d)
front_off byte h d =
    let c = contribution byte (length h) in
    let without : bit_xor (bit_xor (crc (byte ∷ h)) d) c ≡ bit_xor (crc h) d =
    ap (λ x. bit_xor (bit_xor x d) c) (crc-front byte h ∙ xor_comm c (crc h))
    ∙ ap (λ x. bit_xor x c) (xor_assoc (crc h) c d ∙ ap (bit_xor (crc h)) (xor_comm c d) ∙ sym (xor_assoc (crc h) d c))
    ∙ xor_twice (bit_xor (crc h) d) c in
    sym (stripped-push byte h (bit_xor (crc (byte ∷ h)) d) ∙ ap (λ x. h ++ x ∷ []) without)

pub strip-off : (h : List ℕ) (d : ℕ) → 2 ≤ length (wire_of h d) → wire_of (drop 1 h) d ≡ stripped (wire_of h d)
strip-off [] d two = absurd (omega (arith, two))
strip-off (byte ∷ h) d two = front_off byte h d

-- a mask on a byte of the head, on the byte after it, and past both
pub masked-head : (h : List ℕ) (check place mask : ℕ) → place < length h
    → masked h place mask ++ check ∷ [] ≡ masked (h ++ check ∷ []) place mask
masked-head [] check place mask l = absurd (omega arith)
masked-head (byte ∷ h) check zero mask l = refl
masked-head (byte ∷ h) check (suc place) mask l = ap (λ l. byte ∷ l) (masked-head h check place mask (omega (arith, l)))

pub masked-check : (h : List ℕ) (check place mask : ℕ) → place ≡ length h
    → h ++ bit_xor check mask ∷ [] ≡ masked (h ++ check ∷ []) place mask
masked-check [] check place mask e = sym (ap (λ n. masked (check ∷ []) n mask) e)
masked-check (byte ∷ h) check place mask e =
    ap (λ l. byte ∷ l) (masked-check h check (length h) mask refl) ∙ sym (ap (λ n. masked (byte ∷ h ++ check ∷ []) n mask) e)

pub masked-past : (h : List ℕ) (check place mask : ℕ) → length h < place
    → h ++ check ∷ [] ≡ masked (h ++ check ∷ []) place mask
masked-past [] check zero mask l = absurd (omega arith)
masked-past [] check (suc place) mask l = refl
masked-past (byte ∷ h) check zero mask l = absurd (omega arith)
masked-past (byte ∷ h) check (suc place) mask l = ap (λ l. byte ∷ l) (masked-past h check place mask (omega (arith, l)))
