-- What the packet of a probe is read as.
use Rattle.std.proofs.Common.{◌≡◌, ◌≤◌, ◌+◌, ◌*◌, ℕ, suc, Bool, true, false, nat_eq, ℤ, List, [], ◌∷◌, drop, None, is_some, slice_index_or, Ok, refl, sym, ap, ◌∙◌, arith}
use Rattle.std.specs.List.{AllByRecursion, prefix_len}
use Rattle.std.proofs.lemmas.Bool.Decides.{nat_tests}
use Rattle.net_defs.specs.Turn.{IsTurn}
use Rattle.packet_defs.specs.declared.kind.Kind.{Kind}
use Rattle.packet_defs.specs.declared.kind.Kind.TheVariants.{Mapping, Gm}
use Rattle.packet_defs.specs.Crc.{crc}
use Rattle.packet_defs.specs.RouteByte.{route_byte, is_route_byte}
use Rattle.packet_defs.specs.Packet.{head_of, head, packet_of}
use Rattle.packet_defs.specs.Host.{kind_of, of_kind, body_of}
use Rattle.packet_defs.proofs.Packets.{head-push}
use Rattle.packet_defs.proofs.RouteBytes.{turn_of-route_byte}
use Rattle.world_defs.specs.Kinds.{unrouted}
use Rattle.world_defs.specs.Mapping.{MappingBody, mapping_bytes, decode_mapping}
use Rattle.world_defs.specs.Mapping.MappingBody.{HostProbe, HostReply, Loopback, Part, PartAck}
use Rattle.world_defs.proofs.Mappings.{mapping-read}
use Rattle.lawful_laws.specs.Probes.{is_probe, ProbeIsRead, ProbeIsNothingElse, GmIsNoProbe, PartIsNoProbe}
use Rattle.lawful_laws.specs.Former.{IsPacketOf}
use Rattle.lawful_laws.proofs.Bodies.{probe-read}

-- a head without the route bytes in front
abbrev past_route : List ℕ → List ℕ
past_route h = drop (prefix_len is_route_byte h) h

one_more : (k : ℕ) → 1 + k ≡ suc k
one_more k = omega arith

-- a route byte in front is passed over
past-push : (byte : ℕ) (rest : List ℕ) → is_route_byte byte ≡ true → past_route (byte ∷ rest) ≡ past_route rest
past-push byte rest valid = rw valid (ap (λ k. drop k (byte ∷ rest)) (one_more (prefix_len is_route_byte rest)))

past-turns : (route : List ℤ) (payload : List ℕ) → AllByRecursion IsTurn route → past_route (head_of route Mapping payload) ≡ 0 ∷ 5 ∷ payload
past-turns [] payload all = refl
past-turns (turn ∷ route) payload all = past-push (route_byte turn) (head_of route Mapping payload) (ap is_some (turn_of-route_byte turn all.0)) ∙ past-turns route payload all.1

pub probe-is_read : ProbeIsRead
probe-is_read route body turns rules probe =
    let payload : List ℕ = mapping_bytes body in
    let h = head_of route Mapping payload in
    let past : unrouted (packet_of route Mapping payload) ≡ 0 ∷ 5 ∷ payload = ap past_route (head-push h (crc h)) ∙ past-turns route payload turns in
    record { payload = payload; body = body; there = ap body_of past; says = mapping-read body rules; probe = probe }

-- a head that begins with a byte of a turn out of range has no kind
no_kind : (high low : ℕ) → 128 ≤ high → kind_of (256 * high + low) ≡ None
no_kind high low h =
    let five : nat_eq (256 * high + low) 5 ≡ false = grind (arith, nat_tests) in
    let eight : nat_eq (256 * high + low) 8 ≡ false = grind (arith, nat_tests) in
    rw (five, eight) refl

no_body : (high : ℕ) (rest : List ℕ) (r : Kind × List ℕ) → 128 ≤ high → body_of (high ∷ rest) ≡ Ok r → ⊥
no_body high [] r h e = cc
no_body high (low ∷ more) r h e = let bad : of_kind None more ≡ Ok r = ap (λ o. of_kind o more) (sym (no_kind high low h)) ∙ e in cc

past-first : (byte : ℕ) (rest : List ℕ) → is_route_byte byte ≡ false → past_route (byte ∷ rest) ≡ byte ∷ rest
past-first byte rest e = rw e refl

-- whatever stands after the route bytes of a mapping packet is its own body
past-read : (route : List ℤ) (payload : List ℕ) (r : Kind × List ℕ) → body_of (past_route (head_of route Mapping payload)) ≡ Ok r → (Mapping, payload) ≡ r
past-read [] payload r e = cc
past-read (turn ∷ route) payload r e = by (is_route_byte (route_byte turn)) refl (past-read route payload r)
  where
    rest : List ℕ
    rest = head_of route Mapping payload

    by : (b : Bool) → is_route_byte (route_byte turn) ≡ b → (body_of (past_route rest) ≡ Ok r → (Mapping, payload) ≡ r) → (Mapping, payload) ≡ r
    by true t ih = ih (sym (ap body_of (past-push (route_byte turn) rest t)) ∙ e)
    by false t ih = absurd (no_body (route_byte turn) rest r (omega arith) (sym (ap body_of (past-first (route_byte turn) rest t)) ∙ e))

pub probe-nothing_else : ProbeIsNothingElse
probe-nothing_else wire kind payload p e =
    let h = head_of p.route Mapping (mapping_bytes p.body) in
    let same : head wire ≡ h = ap head p.written ∙ head-push h (crc h) in
    let pair : (Mapping, mapping_bytes p.body) ≡ (kind, payload) = past-read p.route (mapping_bytes p.body) (kind, payload) (sym (ap (λ l. body_of (past_route l)) same) ∙ e) in
    (sym (ap (λ x. x.0) pair), (λ b d. probe-read p.body b p.probe (ap decode_mapping (ap (λ x. x.1) pair) ∙ d)))

-- a head says its kind
first_byte : List ℕ → ℕ
first_byte bytes = slice_index_or bytes 0 0

heads-apart : (p q : List ℤ) (xs ys : List ℕ) → head_of p Mapping xs ≡ head_of q Gm ys → ⊥
unfolding first_byte
heads-apart [] [] xs ys e = let bad : 5 ≡ 8 = ap (λ l. first_byte (drop 1 l)) e in omega (arith, bad)
heads-apart [] (t ∷ q) xs ys e = let bad : 0 ≡ route_byte t = ap first_byte e in omega (arith, bad)
heads-apart (t ∷ p) [] xs ys e = let bad : route_byte t ≡ 0 = ap first_byte e in omega (arith, bad)
heads-apart (t ∷ p) (u ∷ q) xs ys e = heads-apart p q xs ys (ap (drop 1) e)

pub gm-no_probe : GmIsNoProbe
gm-no_probe route payload p =
    let h = head_of route Gm payload in
    let g = head_of p.route Mapping (mapping_bytes p.body) in
    heads-apart p.route route (mapping_bytes p.body) payload (sym (head-push g (crc g)) ∙ sym (ap head p.written) ∙ head-push h (crc h))

pub gm-no_former : (test : MappingBody → Bool) (route : List ℤ) (payload : List ℕ) → IsPacketOf test (packet_of route Gm payload) → ⊥
gm-no_former test route payload p =
    let h = head_of route Gm payload in
    let g = head_of p.route Mapping (mapping_bytes p.body) in
    heads-apart p.route route (mapping_bytes p.body) payload (sym (head-push g (crc g)) ∙ sym (ap head p.written) ∙ head-push h (crc h))

heads-same : (p q : List ℤ) (xs ys : List ℕ) → head_of p Mapping xs ≡ head_of q Mapping ys → xs ≡ ys
unfolding first_byte
heads-same [] [] xs ys e = ap (drop 2) e
heads-same [] (t ∷ q) xs ys e = let bad : 0 ≡ route_byte t = ap first_byte e in absurd (omega (arith, bad))
heads-same (t ∷ p) [] xs ys e = let bad : route_byte t ≡ 0 = ap first_byte e in absurd (omega (arith, bad))
heads-same (t ∷ p) (u ∷ q) xs ys e = heads-same p q xs ys (ap (drop 1) e)

probe-low : (b : MappingBody) → is_probe b ≡ true → first_byte (mapping_bytes b) ≤ 3
unfolding first_byte
probe-low (HostProbe number mapper back) e = omega arith
probe-low (HostReply number host) e = omega arith
probe-low (Loopback number mapper) e = omega arith
probe-low (Part p) e = cc
probe-low (PartAck epoch host part) e = cc

part-high : (b : MappingBody) → is_probe b ≡ false → 4 ≤ first_byte (mapping_bytes b)
unfolding first_byte
part-high (HostProbe number mapper back) e = cc
part-high (HostReply number host) e = cc
part-high (Loopback number mapper) e = cc
part-high (Part p) e = omega arith
part-high (PartAck epoch host part) e = omega arith

pub part-no_probe : PartIsNoProbe
part-no_probe route body other p =
    let h = head_of route Mapping (mapping_bytes body) in
    let g = head_of p.route Mapping (mapping_bytes p.body) in
    let same : mapping_bytes p.body ≡ mapping_bytes body = heads-same p.route route (mapping_bytes p.body) (mapping_bytes body) (sym (head-push g (crc g)) ∙ sym (ap head p.written) ∙ head-push h (crc h)) in
    let low = probe-low p.body p.probe in
    let high = part-high body other in
    let one : first_byte (mapping_bytes p.body) ≡ first_byte (mapping_bytes body) = ap first_byte same in
    omega (arith, low, high, one)
