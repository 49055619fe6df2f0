-- What packets ask for: as much on their way as at their host, and no more than what was sent.
use Rattle.std.proofs.Common.{◌≡◌, ◌≤◌, ◌+◌, ◌*◌, ℕ, suc, Bool, true, false, ℤ, List, [], ◌∷◌, ◌++◌, drop, length, nat_eq, nat_le, Option, Some, None, option_map, is_some, Result, Ok, Err, refl, sym, ap, ◌∙◌, subst, arith, true≢false, if◌then◌else◌}
use Rattle.std.specs.List.{prefix_len, slice_get}
use Rattle.std.specs.Option.{option_and_then}
use Rattle.std.specs.Int.{w16, w32, w64, to_be_bytes}
use Rattle.std.specs.Int.Bits.{bit_xor}
use Rattle.std.proofs.lemmas.Bool.Decides.{nat_tests}
use Rattle.packet_defs.specs.declared.kind.Kind.{Kind}
use Rattle.packet_defs.specs.declared.kind.Kind.TheVariants.{Mapping, Gm}
use Rattle.packet_defs.specs.declared.host_drop.HostDrop.{HostDrop}
use Rattle.packet_defs.specs.declared.host_drop.HostDrop.TheVariants.{BadCrc, RouteLeft}
use Rattle.packet_defs.specs.Crc.{crc, contribution}
use Rattle.packet_defs.specs.RouteByte.{route_byte, turn_of, is_route_byte}
use Rattle.packet_defs.specs.Packet.{head_of, packet_of, head, difference, front_turn, stripped}
use Rattle.packet_defs.specs.Host.{has_route, kind_of, of_kind, body_of, decode as decode_packet}
use Rattle.packet_defs.proofs.Packets.{ended, head-push, stripped-push}
use Rattle.gm_defs.specs.declared.frame.Ack.{Ack}
use Rattle.gm_defs.specs.declared.frame.GmBody.{GmBody}
use Rattle.gm_defs.specs.declared.frame.GmBody.TheVariants.{Frame, Ack as Acknowledges}
use Rattle.gm_defs.specs.declared.frame.Malformed.{Malformed}
use Rattle.gm_defs.specs.Body.{ack_bytes, decode}
use Rattle.gm_defs.specs.Connection.{ack_on}
use Rattle.gm_defs.proofs.Bodies.{read_frame}
use Rattle.world_defs.specs.Mapping.{MappingBody, Front, mapping_bytes, is_mapping, by_the_rules, whole, two_front, byte_front, decode_mapping}
use Rattle.world_defs.specs.Mapping.MappingBody.{HostProbe, HostReply, Loopback, Part, PartAck}
use Rattle.world_defs.specs.Node.{Outgoing, Probe, TablePart, Reply, PartAnswer, FrameAnswer, Fragment, takes_from, packet_for}
use Rattle.world_defs.specs.Hearing.{PacketBody, OfMapper, OfFrame, OfAck, Unread, mapping_read, messages_read, packet_read}
use Rattle.world_defs.specs.Kinds.{unrouted}
use Rattle.injection_bounds.specs.Credit.{asks, wire_credit}

-- one answer at most
pub asks-few : (b : PacketBody) → asks b ≤ 1
asks-few (OfMapper (HostProbe number mapper back)) = omega arith
asks-few (OfMapper (HostReply number host)) = omega arith
asks-few (OfMapper (Loopback number mapper)) = omega arith
asks-few (OfMapper (Part p)) = omega arith
asks-few (OfMapper (PartAck epoch host part)) = omega arith
asks-few (OfFrame h part) = omega arith
asks-few (OfAck a) = omega arith
asks-few (Unread drop) = omega arith

-- a head without the route bytes in front
abbrev past_route : List ℕ → List ℕ
past_route h = drop (prefix_len is_route_byte h) h

one_more : (k : ℕ) → 1 + k ≡ suc k
one_more k = omega arith

past-push : (byte : ℕ) (rest : List ℕ) → is_route_byte byte ≡ true → past_route (byte ∷ rest) ≡ past_route rest
past-push byte rest valid = rw valid (ap (λ k. drop k (byte ∷ rest)) (one_more (prefix_len is_route_byte rest)))

past-first : (byte : ℕ) (rest : List ℕ) → is_route_byte byte ≡ false → past_route (byte ∷ rest) ≡ byte ∷ rest
past-first byte rest e = rw e refl

-- a switch strips a route byte alone
unrouted-push : (byte : ℕ) (turn : ℤ) (front : List ℕ) (last : ℕ) → turn_of byte ≡ Some turn → unrouted (stripped (byte ∷ front ++ last ∷ [])) ≡ unrouted (byte ∷ front ++ last ∷ [])
unrouted-push byte turn front last e =
    let c = bit_xor last (contribution byte (length front)) in
    ap unrouted (stripped-push byte front last) ∙ ap past_route (head-push front c) ∙ sym (past-push byte front (ap is_some e)) ∙ sym (ap past_route (head-push (byte ∷ front) last))

unrouted-stripped : (wire : List ℕ) (turn : ℤ) → front_turn wire ≡ Some turn → unrouted (stripped wire) ≡ unrouted wire
unrouted-stripped [] turn e = cc
unrouted-stripped (byte ∷ []) turn e = cc
unrouted-stripped (byte ∷ next ∷ wire) turn e =
    let w = ended next wire in
    let begins : front_turn (byte ∷ w.front ++ w.last ∷ []) ≡ turn_of byte = ap (λ l. option_and_then turn_of (slice_get l 0)) (head-push (byte ∷ w.front) w.last) in
    let is : turn_of byte ≡ Some turn = sym begins ∙ sym (ap (λ l. front_turn (byte ∷ l)) w.whole) ∙ e in
    subst (λ l. unrouted (stripped (byte ∷ l)) ≡ unrouted (byte ∷ l)) (sym w.whole) (unrouted-push byte turn w.front w.last is)

pub stripped-credit : (wire : List ℕ) (turn : ℤ) → front_turn wire ≡ Some turn → wire_credit (stripped wire) ≡ wire_credit wire
stripped-credit wire turn e = ap (λ l. asks (packet_read (body_of l))) (unrouted-stripped wire turn e)

-- what a host reads is what stands after the route
no_turn_of : (byte : ℕ) → nat_le 128 byte ≡ false → is_route_byte byte ≡ false
no_turn_of byte e = let f : nat_le 177 byte ≡ false = grind (arith, nat_tests) in rw (e, f) refl

past-none : (h : List ℕ) → has_route h ≡ false → past_route h ≡ h
past-none [] e = refl
past-none (byte ∷ rest) e = past-first byte rest (no_turn_of byte e)

pub read-credit : (wire : List ℕ) → asks (packet_read (decode_packet wire)) ≤ wire_credit wire
read-credit wire = by (nat_eq (difference wire) 0) (has_route (head wire)) refl
  where
    by : (t u : Bool) → has_route (head wire) ≡ u → asks (packet_read (if t then if u then Err RouteLeft else body_of (head wire) else Err BadCrc)) ≤ wire_credit wire
    by true false f = let same : wire_credit wire ≡ asks (packet_read (body_of (head wire))) = ap (λ l. asks (packet_read (body_of l))) (past-none (head wire) f) in omega (arith, same)
    by true true f = omega arith
    by false u f = omega arith

-- no kind has a type that begins with a high byte
high-kind : (high low : ℕ) → 128 ≤ high → kind_of (256 * high + low) ≡ None
high-kind high low h = grind (arith, nat_tests)

high-body : (high : ℕ) (bytes : List ℕ) (r : Kind × List ℕ) → 128 ≤ high → body_of (high ∷ bytes) ≡ Ok r → ⊥
high-body high [] r h e = cc
high-body high (low ∷ bytes) r h e = let bad = sym (ap (λ k. of_kind k bytes) (high-kind high low h)) ∙ e in cc

-- what is read after the route of a packet is its kind and its payload
past-read : (route : List ℤ) (kind k : Kind) (payload body : List ℕ) → body_of (past_route (head_of route kind payload)) ≡ Ok (k, body) → ◌≡◌ {A = Kind × List ℕ} (kind, payload) (k, body)
past-read [] Mapping k payload body e = cc
past-read [] Gm k payload body e = cc
past-read (turn ∷ route) kind k payload body e = by (is_route_byte (route_byte turn)) refl (past-read route kind k payload body)
  where
    rest : List ℕ
    rest = head_of route kind payload

    by : (b : Bool) → is_route_byte (route_byte turn) ≡ b → (body_of (past_route rest) ≡ Ok (k, body) → ◌≡◌ {A = Kind × List ℕ} (kind, payload) (k, body)) → ◌≡◌ {A = Kind × List ℕ} (kind, payload) (k, body)
    by true t ih = ih (sym (ap body_of (past-push (route_byte turn) rest t)) ∙ e)
    by false t ih = absurd (high-body (route_byte turn) rest (k, body) (omega arith) (sym (ap body_of (past-first (route_byte turn) rest t)) ∙ e))

packet-credit : (route : List ℤ) (kind : Kind) (payload : List ℕ) → wire_credit (packet_of route kind payload) ≤ asks (packet_read (Ok (kind, payload)))
packet-credit route kind payload =
    let same : wire_credit (packet_of route kind payload) ≡ asks (packet_read (body_of (past_route (head_of route kind payload)))) = ap (λ l. asks (packet_read (body_of (past_route l)))) (head-push (head_of route kind payload) (crc (head_of route kind payload))) in
    let read = by (body_of (past_route (head_of route kind payload))) refl in
    omega (arith, same, read)
  where
    by : (r : Result (Kind × List ℕ) HostDrop) → body_of (past_route (head_of route kind payload)) ≡ r → asks (packet_read r) ≤ asks (packet_read (Ok (kind, payload)))
    by (Err drop) e = omega arith
    by (Ok (k, body)) e =
        let pair : ◌≡◌ {A = Kind × List ℕ} (kind, payload) (k, body) = past-read route kind k payload body e in
        let even : asks (packet_read (Ok (kind, payload))) ≡ asks (packet_read (Ok (k, body))) = ap (λ x. asks (packet_read (Ok x))) pair in
        omega (arith, even)

-- answers ask for nothing
ruled : (o : Option MappingBody) → asks (mapping_read o) ≡ 0 → asks (mapping_read (by_the_rules o)) ≡ 0
ruled None e = refl
ruled (Some b) e = by (is_mapping b)
  where
    by : (t : Bool) → asks (mapping_read (if t then Some b else None)) ≡ 0
    by true = e
    by false = refl

reply-whole : (o : Front (ℕ × ℕ)) → asks (mapping_read (whole (option_map (λ two. (HostReply two.0.0 two.0.1, two.1)) o))) ≡ 0
reply-whole None = refl
reply-whole (Some (two, [])) = refl
reply-whole (Some (two, byte ∷ bytes)) = refl

ack-part : (epoch host : ℕ) (o : Front ℕ) → asks (mapping_read (whole (option_map (λ part. (PartAck epoch host part.0, part.1)) o))) ≡ 0
ack-part epoch host None = refl
ack-part epoch host (Some (part, [])) = refl
ack-part epoch host (Some (part, byte ∷ bytes)) = refl

ack-whole : (o : Front (ℕ × ℕ)) → asks (mapping_read (whole (option_and_then (λ two. option_map (λ part. (PartAck two.0.0 two.0.1 part.0, part.1)) (byte_front two.1)) o))) ≡ 0
ack-whole None = refl
ack-whole (Some two) = ack-part two.0.0 two.0.1 (byte_front two.1)

reply-asks : (bytes : List ℕ) → asks (mapping_read (decode_mapping (2 ∷ bytes))) ≡ 0
reply-asks bytes = ruled (whole (option_map (λ two. (HostReply two.0.0 two.0.1, two.1)) (two_front w64 8 bytes))) (reply-whole (two_front w64 8 bytes))

part_ack-asks : (bytes : List ℕ) → asks (mapping_read (decode_mapping (5 ∷ bytes))) ≡ 0
part_ack-asks bytes = ruled (whole (option_and_then (λ two. option_map (λ part. (PartAck two.0.0 two.0.1 part.0, part.1)) (byte_front two.1)) (two_front w32 4 bytes))) (ack-whole (two_front w32 4 bytes))

ack-asks : (a : Ack) → asks (messages_read (ack_bytes a) (decode (ack_bytes a))) ≡ 0
ack-asks a = by (decode (ack_bytes a)) refl
  where
    by : (r : Result GmBody Malformed) → decode (ack_bytes a) ≡ r → asks (messages_read (ack_bytes a) r) ≡ 0
    by (Err x) e = refl
    by (Ok (Frame h)) e = absurd (true≢false (sym (read_frame (ack_bytes a) h e).0))
    by (Ok (Acknowledges b)) e = refl

-- the answers that what a host sends may ask for
abbrev pub out_asks : Outgoing → ℕ
out_asks (Probe walk looped) = 1
out_asks (TablePart part by) = 1
out_asks (Reply r) = 0
out_asks (PartAnswer a) = 0
out_asks (FrameAnswer lane next by) = 0
out_asks (Fragment lane head part by) = 1

none-asked : (route : List ℤ) (kind : Kind) (payload : List ℕ) → asks (packet_read (Ok (kind, payload))) ≡ 0 → wire_credit (packet_of route kind payload) ≤ 0
none-asked route kind payload e = let h = packet-credit route kind payload in omega (arith, h, e)

pub sent-credit : (host number : ℕ) (out : Outgoing) → wire_credit (packet_for host number out) ≤ out_asks out
unfolding packet_for
sent-credit host number (Probe walk true) = asks-few (packet_read (body_of (unrouted (packet_for host number (Probe walk true)))))
sent-credit host number (Probe walk false) = asks-few (packet_read (body_of (unrouted (packet_for host number (Probe walk false)))))
sent-credit host number (TablePart part by) = asks-few (packet_read (body_of (unrouted (packet_for host number (TablePart part by)))))
sent-credit host number (Reply r) = none-asked r.back Mapping (mapping_bytes (HostReply r.number host)) (reply-asks (to_be_bytes w64 r.number ++ to_be_bytes w16 host))
sent-credit host number (PartAnswer a) =
    none-asked a.back Mapping (mapping_bytes (PartAck a.epoch host a.part)) (part_ack-asks (to_be_bytes w32 a.epoch ++ to_be_bytes w16 host ++ a.part ∷ []))
sent-credit host number (FrameAnswer lane next by) = none-asked by Gm (ack_bytes (ack_on (takes_from host lane) next)) (ack-asks (ack_on (takes_from host lane) next))
sent-credit host number (Fragment lane head part by) = asks-few (packet_read (body_of (unrouted (packet_for host number (Fragment lane head part by)))))
