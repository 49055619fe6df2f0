-- A switch leaves the kind of a packet, and a packet of turns has the kind that it was built of.
use Rattle.std.proofs.Common.{◌≡◌, ◌+◌, ℕ, suc, Bool, true, false, ℤ, List, [], ◌∷◌, ◌++◌, drop, length, Option, Some, None, is_some, refl, sym, ap, ◌∙◌, subst, arith}
use Rattle.std.specs.List.{prefix_len, slice_get, list_all}
use Rattle.std.specs.Option.{option_and_then}
use Rattle.std.specs.Int.Bits.{bit_xor}
use Rattle.net_defs.specs.Turn.{is_turn}
use Rattle.net_defs.proofs.Ends.{both}
use Rattle.packet_defs.specs.declared.kind.Kind.{Kind}
use Rattle.packet_defs.specs.declared.kind.Kind.TheVariants.{Mapping, Gm}
use Rattle.packet_defs.specs.Crc.{crc, contribution}
use Rattle.packet_defs.specs.RouteByte.{route_byte, turn_of, is_route_byte}
use Rattle.packet_defs.specs.Packet.{head_of, packet_of, head, front_turn, stripped}
use Rattle.packet_defs.proofs.Packets.{ended, head-push, stripped-push}
use Rattle.packet_defs.proofs.RouteBytes.{turn_of-route_byte}
use Rattle.world_defs.specs.Kinds.{unrouted, kind_in, is_of_mapping, is_mapping, is_of_gm, is_gm}

-- a head without the route bytes in front
abbrev past_route : List ℕ → List ℕ
past_route h = drop (prefix_len is_route_byte h) h

one_more : (k : ℕ) → 1 + k ≡ suc k
one_more k = omega arith

past-push : (byte : ℕ) (rest : List ℕ) → is_route_byte byte ≡ true → past_route (byte ∷ rest) ≡ past_route rest
past-push byte rest valid = rw valid (ap (λ k. drop k (byte ∷ rest)) (one_more (prefix_len is_route_byte rest)))

-- a switch strips a route byte alone
unrouted-push : (byte : ℕ) (turn : ℤ) (front : List ℕ) (last : ℕ) → turn_of byte ≡ Some turn → unrouted (stripped (byte ∷ front ++ last ∷ [])) ≡ unrouted (byte ∷ front ++ last ∷ [])
unrouted-push byte turn front last e =
    let c = bit_xor last (contribution byte (length front)) in
    ap unrouted (stripped-push byte front last) ∙ ap past_route (head-push front c) ∙ sym (past-push byte front (ap is_some e)) ∙ sym (ap past_route (head-push (byte ∷ front) last))

pub unrouted-stripped : (wire : List ℕ) (turn : ℤ) → front_turn wire ≡ Some turn → unrouted (stripped wire) ≡ unrouted wire
unrouted-stripped [] turn e = cc
unrouted-stripped (byte ∷ []) turn e = cc
unrouted-stripped (byte ∷ next ∷ wire) turn e =
    let w = ended next wire in
    let begins : front_turn (byte ∷ w.front ++ w.last ∷ []) ≡ turn_of byte = ap (λ l. option_and_then turn_of (slice_get l 0)) (head-push (byte ∷ w.front) w.last) in
    let is : turn_of byte ≡ Some turn = sym begins ∙ sym (ap (λ l. front_turn (byte ∷ l)) w.whole) ∙ e in
    subst (λ l. unrouted (stripped (byte ∷ l)) ≡ unrouted (byte ∷ l)) (sym w.whole) (unrouted-push byte turn w.front w.last is)

pub is_gm-stripped : (wire : List ℕ) (turn : ℤ) → front_turn wire ≡ Some turn → is_gm (stripped wire) ≡ is_gm wire
is_gm-stripped wire turn e = ap (λ l. is_of_gm (kind_in l)) (unrouted-stripped wire turn e)

-- a packet of messages
past-turns : (route : List ℤ) (payload : List ℕ) → list_all is_turn route ≡ true → past_route (head_of route Gm payload) ≡ 0 ∷ 8 ∷ payload
past-turns [] payload all = refl
past-turns (turn ∷ route) payload all =
    let two = both (is_turn turn) (list_all is_turn route) all in
    past-push (route_byte turn) (head_of route Gm payload) (ap is_some (turn_of-route_byte turn two.0)) ∙ past-turns route payload two.1

unrouted-gm : (route : List ℤ) (payload : List ℕ) → list_all is_turn route ≡ true → unrouted (packet_of route Gm payload) ≡ 0 ∷ 8 ∷ payload
unrouted-gm route payload all = let front = head_of route Gm payload in ap past_route (head-push front (crc front)) ∙ past-turns route payload all

pub gm-is : (route : List ℤ) (payload : List ℕ) → list_all is_turn route ≡ true → is_gm (packet_of route Gm payload) ≡ true
gm-is route payload all = ap (λ l. is_of_gm (kind_in l)) (unrouted-gm route payload all)

-- no packet is of both types
gm-apart : (o : Option Kind) → is_of_gm o ≡ true → is_of_mapping o ≡ false
gm-apart None e = refl
gm-apart (Some Mapping) e = cc
gm-apart (Some Gm) e = refl

pub gm-no_mapping : (wire : List ℕ) → is_gm wire ≡ true → is_mapping wire ≡ false
gm-no_mapping wire e = gm-apart (kind_in (unrouted wire)) e
