-- What is put into a buffer makes the packet, and two writes make a burst.
use Rattle.std.proofs.Common.{◌≡◌, ◌<◌, ◌+◌, ◌*◌, ◌/◌, ◌%◌, ◌^◌, ℕ, zero, suc, true, ℤ, List, [], ◌∷◌, ◌++◌, map, length, ◌≤◌, is_some, rules, sym, ap, ◌∙◌, arith, append_assoc, ◌-◌}
use Rattle.packet_defs.specs.declared.kind.Kind.{Kind}
use Rattle.packet_defs.specs.RouteByte.{route_byte}
use Rattle.packet_defs.specs.Packet.{type_of, head_of, front_turn}
use Rattle.packet_defs.specs.Burst.{flipped, masked}
use Rattle.packet_defs.proofs.Masks.{flipped-masked}

-- a payload after what stands before it
pub front-behind : (route : List ℤ) (kind : Kind) (payload : List ℕ) → head_of route kind [] ++ payload ≡ head_of route kind payload
front-behind route kind payload = append_assoc (map route_byte route) (0 ∷ type_of kind ∷ []) payload

-- what of a burst falls into the byte where it begins: the pattern without its last bits
first_mask : (pattern offset : ℕ) → pattern < 256 → offset < 8 → pattern * 2 ^ (8 - offset) % 65536 / 256 ≡ pattern / 2 ^ offset
first_mask p zero low h = omega arith
first_mask p (suc zero) low h = omega arith
first_mask p (suc (suc zero)) low h = omega arith
first_mask p (suc (suc (suc zero))) low h = omega arith
first_mask p (suc (suc (suc (suc zero)))) low h = omega arith
first_mask p (suc (suc (suc (suc (suc zero))))) low h = omega arith
first_mask p (suc (suc (suc (suc (suc (suc zero)))))) low h = omega arith
first_mask p (suc (suc (suc (suc (suc (suc (suc zero))))))) low h = omega arith
first_mask p (suc (suc (suc (suc (suc (suc (suc (suc n)))))))) low h = absurd (omega arith)

-- so the two writes flip the bits
pub two_masks : (bytes one two : List ℕ) (bit pattern wide : ℕ) → pattern < 256 → wide ≡ pattern → one ≡ masked bytes (bit / 8) (wide * 2 ^ (8 - bit % 8) % 65536 / 256) → two ≡ masked one (bit / 8 + 1) (wide * 2 ^ (8 - bit % 8) % 65536 % 256) → two ≡ flipped bytes bit pattern
two_masks bytes one two bit pattern wide h w a b =
    let low : bit % 8 < 8 = omega arith in
    let m : wide * 2 ^ (8 - bit % 8) % 65536 / 256 ≡ pattern / 2 ^ (bit % 8) = ap (λ x. x * 2 ^ (8 - bit % 8) % 65536 / 256) w ∙ first_mask pattern (bit % 8) h low in
    let spread = pattern * 2 ^ (8 - bit % 8) in
    let rest : spread % 65536 % 256 ≡ spread % 256 = omega arith in
    b
    ∙ ap (λ l. masked l (bit / 8 + 1) (wide * 2 ^ (8 - bit % 8) % 65536 % 256)) (a ∙ ap (masked bytes (bit / 8)) m)
    ∙ ap (masked (masked bytes (bit / 8) (pattern / 2 ^ (bit % 8))) (bit / 8 + 1)) (ap (λ x. x * 2 ^ (8 - bit % 8) % 65536 % 256) w ∙ rest)
    ∙ sym (flipped-masked bytes bit pattern h)

-- a packet with a turn has a byte besides the CRC
pub two_bytes : (wire : List ℕ) → is_some (front_turn wire) ≡ true → 2 ≤ length wire
two_bytes [] h = absurd (search (rules, h))
two_bytes (byte ∷ []) h = absurd (search (rules, h))
two_bytes (byte ∷ next ∷ wire) h = omega arith
