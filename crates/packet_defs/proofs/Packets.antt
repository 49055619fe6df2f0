-- A packet as its head and its CRC, its difference, and what a strip leaves of both.
use Rattle.std.proofs.Common.{◌≡◌, ◌<◌, ◌≤◌, ◌+◌, ◌-◌, ℕ, zero, suc, ℤ, List, [], ◌∷◌, ◌++◌, length, take, get_or, Some, refl, sym, ap, ◌∙◌, subst, arith}
use Rattle.std.proofs.lemmas.List.{length-append}
use Rattle.std.proofs.Math.Seq.{take-append_seam, get_or-append_seam}
use Rattle.std.specs.List.{slice_get}
use Rattle.std.specs.Option.{option_and_then}
use Rattle.std.specs.Int.Bits.{bit_xor, xor_assoc, xor_self}
use Rattle.std.proofs.lemmas.Nat.{xor_comm}
use Rattle.packet_defs.specs.declared.kind.Kind.{Kind}
use Rattle.packet_defs.specs.Crc.{crc, contribution}
use Rattle.packet_defs.specs.RouteByte.{route_byte, turn_of}
use Rattle.packet_defs.specs.Packet.{head_of, packet_of, head, crc_byte, difference, front_turn, stripped, stripped_times}
use Rattle.net_defs.specs.Turn.{IsTurn}
use Rattle.packet_defs.proofs.Reduced.{xor_twice}
use Rattle.packet_defs.proofs.RouteBytes.{turn_of-route_byte}
use Rattle.packet_defs.proofs.Crcs.{crc-front}

-- a list that isn't empty has a last element
pub record Ended (wire : List ℕ) : Type 0 where
  pub front : List ℕ
  pub last : ℕ
  pub whole : wire ≡ front ++ last ∷ []

pub ended : (byte : ℕ) (wire : List ℕ) → Ended (byte ∷ wire)
ended byte [] = record { front = []; last = byte; whole = refl }
ended byte (next ∷ wire) = let e = ended next wire in record { front = byte ∷ e.front; last = e.last; whole = ap (λ l. byte ∷ l) e.whole }

pub ended_wire : (wire : List ℕ) → 0 < length wire → Ended wire
ended_wire [] h = absurd (omega arith)
ended_wire (byte ∷ wire) h = ended byte wire

all_but_last : (front : List ℕ) (last : ℕ) → length (front ++ last ∷ []) - 1 ≡ length front
all_but_last front last = omega (arith, length-append front (last ∷ []))

pub head-push : (front : List ℕ) (last : ℕ) → head (front ++ last ∷ []) ≡ front
head-push front last = ap (λ n. take n (front ++ last ∷ [])) (all_but_last front last) ∙ take-append_seam front (last ∷ [])

pub crc_byte-push : (front : List ℕ) (last : ℕ) → crc_byte (front ++ last ∷ []) ≡ last
crc_byte-push front last = ap (λ n. get_or (front ++ last ∷ []) n 0) (all_but_last front last) ∙ get_or-append_seam front last [] 0

pub difference-push : (front : List ℕ) (last : ℕ) → difference (front ++ last ∷ []) ≡ bit_xor last (crc front)
difference-push front last = rw (crc_byte-push front last, head-push front last) refl

pub stripped-push : (byte : ℕ) (front : List ℕ) (last : ℕ) → stripped (byte ∷ front ++ last ∷ []) ≡ front ++ bit_xor last (contribution byte (length front)) ∷ []
stripped-push byte front last = rw (head-push front last, crc_byte-push front last, all_but_last front last) refl

-- a strip keeps the difference
strip_keeps_push : (byte : ℕ) (front : List ℕ) (last : ℕ) → difference (stripped (byte ∷ front ++ last ∷ [])) ≡ difference (byte ∷ front ++ last ∷ [])
strip_keeps_push byte front last =
    ap difference (stripped-push byte front last)
    ∙ difference-push front (bit_xor last (contribution byte (length front)))
    ∙ xor_assoc last (contribution byte (length front)) (crc front)
    ∙ ap (bit_xor last) (sym (crc-front byte front))
    ∙ sym (difference-push (byte ∷ front) last)

pub strip_keeps : (wire : List ℕ) → 2 ≤ length wire → difference (stripped wire) ≡ difference wire
strip_keeps [] h = absurd (omega arith)
strip_keeps (byte ∷ []) h = absurd (omega arith)
strip_keeps (byte ∷ next ∷ wire) h =
    let e = ended next wire in
    subst (λ l. difference (stripped (byte ∷ l)) ≡ difference (byte ∷ l)) (sym e.whole) (strip_keeps_push byte e.front e.last)

pub length-stripped : (wire : List ℕ) → 2 ≤ length wire → length (stripped wire) + 1 ≡ length wire
length-stripped [] h = absurd (omega arith)
length-stripped (byte ∷ []) h = absurd (omega arith)
length-stripped (byte ∷ next ∷ wire) h =
    let e = ended next wire in
    let c = bit_xor e.last (contribution byte (length e.front)) in
    let short : length (stripped (byte ∷ e.front ++ e.last ∷ [])) ≡ length (e.front ++ c ∷ []) = ap length (stripped-push byte e.front e.last) in
    subst (λ l. length (stripped (byte ∷ l)) + 1 ≡ length (byte ∷ l)) (sym e.whole)
    (omega (arith, short, length-append e.front (c ∷ []), length-append e.front (e.last ∷ [])))

-- so do many
pub strips_keep : (n : ℕ) (wire : List ℕ) → n < length wire → difference (stripped_times n wire) ≡ difference wire
strips_keep zero wire h = refl
strips_keep (suc n) wire h =
    let two : 2 ≤ length wire = omega arith in
    let short = length-stripped wire two in
    strips_keep n (stripped wire) (omega arith) ∙ strip_keeps wire two

-- a packet that was built
pub packet_of-difference : (route : List ℤ) (kind : Kind) (payload : List ℕ) → difference (packet_of route kind payload) ≡ 0
packet_of-difference route kind payload = let h = head_of route kind payload in difference-push h (crc h) ∙ xor_self (crc h)

pub packet_of-stripped : (turn : ℤ) (route : List ℤ) (kind : Kind) (payload : List ℕ) → stripped (packet_of (turn ∷ route) kind payload) ≡ packet_of route kind payload
packet_of-stripped turn route kind payload =
    let h = head_of route kind payload in
    let b = route_byte turn in
    let c = contribution b (length h) in
    let rest : bit_xor (crc (b ∷ h)) c ≡ crc h = ap (λ x. bit_xor x c) (crc-front b h ∙ xor_comm c (crc h)) ∙ xor_twice (crc h) c in
    stripped-push b h (crc (b ∷ h)) ∙ ap (λ x. h ++ x ∷ []) rest

pub packet_of-front : (turn : ℤ) (route : List ℤ) (kind : Kind) (payload : List ℕ) → IsTurn turn → front_turn (packet_of (turn ∷ route) kind payload) ≡ Some turn
packet_of-front turn route kind payload is =
    let h = head_of (turn ∷ route) kind payload in
    ap (λ l. option_and_then turn_of (slice_get l 0)) (head-push h (crc h)) ∙ turn_of-route_byte turn is
