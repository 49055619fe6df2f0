-- A host keeps what it has of the adopted set, whatever it hears, sends or is called for, and sends no other parts.
use Rattle.std.proofs.Common.{◌≡◌, ℕ, Bool, true, false, ℤ, pos, List, [], ◌∷◌, ◌++◌, Option, Some, None, IfSome, option_map, refl, ◌∙◌, sym, ap, subst, if◌then◌else◌, Ok}
use Rattle.std.specs.Prelude.{option_and_then}
use Rattle.std.specs.Int.{w16, w32, w64, to_be_bytes}
use Rattle.std.proofs.lemmas.Option.{same_Some}
use Rattle.packet_defs.specs.declared.kind.Kind.{Kind}
use Rattle.packet_defs.specs.declared.kind.Kind.TheVariants.{Mapping, Gm}
use Rattle.packet_defs.specs.Host.{decode as decode_packet}
use Rattle.gm_defs.specs.declared.frame.FrameHead.{FrameHead}
use Rattle.gm_defs.specs.Body.{part_in, frame_bytes, ack_bytes}
use Rattle.gm_defs.specs.Connection.{ack_on}
use Rattle.world_defs.specs.Mapping.{RoutePart, MappingBody, Front, decode_mapping, mapping_bytes, is_mapping, by_the_rules, whole, two_front, route_front, byte_front, route_bytes}
use Rattle.world_defs.specs.Mapping.MappingBody.{HostProbe, HostReply, Loopback, Part, PartAck}
use Rattle.gm_defs.proofs.Choices.{map-some, then-some}
use Rattle.world_defs.specs.declared.arrival.Arrival.{Arrival}
use Rattle.world_defs.specs.Table.{Adoption}
use Rattle.world_defs.specs.Lane.{LaneState, lane_expired, tickets_finished}
use Rattle.world_defs.specs.Node.{NodeState, Staged, StagedReply, StagedAck, StagedProbe, StagedPart, Outgoing, Probe, TablePart, Reply, PartAnswer, FrameAnswer, Fragment, lane_of, takes_from, lane_at, with_lane, lane_route, way_back, outgoing_staged, owed_on, due_on, due_frame, either, first_some, lanes_of, to_send, packet_for, after_sending, given_up, with_expired, node_expired}
use Rattle.world_defs.specs.Hearing.{ack_lane, frame_took, hear}
use Rattle.world_defs.specs.Client.{ClientState, Called}
use Rattle.world_defs.proofs.Hearings.{Hearing, hearing, delivered_after-rest, all_finished-rest}
use Rattle.world_defs.proofs.Calls.{Call}
use Rattle.table_laws.specs.Set.{IsPart, IsFitPart}
use Rattle.table_laws.specs.Packets.{Built}
use Rattle.table_laws.specs.Bodies.{IsBody, IsStaged, IsHostOf}
use Rattle.table_laws.proofs.Parts.{applied-table}
use Rattle.table_laws.proofs.Written.{part-read}

-- what it hears
lane-host : (o : Option Adoption) (host : ℕ) (n : NodeState) (lane : ℕ) (l : LaneState) → IsHostOf o host n → IsHostOf o host (with_lane n lane l)
lane-host o host n lane l is = record { staged = is.staged; table = is.table }

pub hear-host : (o : Option Adoption) (host hosts : ℕ) (n : NodeState) (wire : List ℕ) → IsHostOf o host n → ((k : Kind) (body : List ℕ) → decode_packet wire ≡ Ok (k, body) → IsBody o k body) → IsHostOf o host (hear host hosts n wire).1
hear-host o host hosts n wire is good = by (hearing host hosts n wire)
  where
    by : {r : Arrival × NodeState} → Hearing host hosts n wire r → IsHostOf o host r.1
    by (Hearing.stays a) = is
    by (Hearing.probe body number mapper back e d) = record { staged = is.staged; table = is.table }
    by (Hearing.part body p e d mine) = record { staged = is.staged; table = applied-table o host n.table p (subst (λ h. IsPart o h p) mine ((good Mapping body e).part p refl d)) is.table }
    by (Hearing.frame body h e d mine from) = subst (IsHostOf o host) (sym (delivered_after-rest _ h (part_in body) (frame_took n h))) (record { staged = is.staged; table = is.table })
    by (Hearing.ack body a e d mine from) = subst (IsHostOf o host) (sym (all_finished-rest _ (tickets_finished (lane_at n (ack_lane a)) a.next))) (record { staged = is.staged; table = is.table })

-- what it sends
abbrev pub IsOut : Option Adoption → Outgoing → Type 0
IsOut o (TablePart p by) = IsPart o p.dst p × IsFitPart p
IsOut o (Probe walk looped) = Unit {0}
IsOut o (Reply r) = Unit {0}
IsOut o (PartAnswer a) = Unit {0}
IsOut o (FrameAnswer lane next by) = Unit {0}
IsOut o (Fragment lane head part by) = Unit {0}

either-holds : {A : Type 0} (P : A → Type 0) (a b : Option A) → ((x : A) → a ≡ Some x → P x) → ((x : A) → b ≡ Some x → P x) → (x : A) → either a b ≡ Some x → P x
either-holds P (Some y) b f g x e = f x e
either-holds P None b f g x e = g x e

first_some-holds : {A : Type 0} (P : A → Type 0) (f : ℕ → Option A) → ((k : ℕ) (x : A) → f k ≡ Some x → P x) → (ks : List ℕ) (x : A) → first_some f ks ≡ Some x → P x
first_some-holds P f all [] x e = cc
first_some-holds P f all (k ∷ ks) x e = either-holds P (f k) (first_some f ks) (all k) (first_some-holds P f all ks) x e

staged-out : (o : Option Adoption) (s : Option Staged) (x : Outgoing) → IfSome s (IsStaged o) → option_map outgoing_staged s ≡ Some x → IsOut o x
staged-out o None x is e = cc
staged-out o (Some (StagedProbe walk looped)) x is e = subst (IsOut o) (same_Some (Probe walk looped) x e) tt
staged-out o (Some (StagedPart part by)) x is e = subst (IsOut o) (same_Some (TablePart part by) x e) is

reply-out : (o : Option Adoption) (s : Option StagedReply) (x : Outgoing) → option_map Reply s ≡ Some x → IsOut o x
reply-out o None x e = cc
reply-out o (Some r) x e = subst (IsOut o) (same_Some (Reply r) x e) tt

answer-out : (o : Option Adoption) (s : Option StagedAck) (x : Outgoing) → option_map PartAnswer s ≡ Some x → IsOut o x
answer-out o None x e = cc
answer-out o (Some a) x e = subst (IsOut o) (same_Some (PartAnswer a) x e) tt

owed-out : (o : Option Adoption) (lane next : ℕ) (b : Bool) (r : Option (List ℤ)) (x : Outgoing) → (if b then option_map (λ by. FrameAnswer lane next by) r else None) ≡ Some x → IsOut o x
owed-out o lane next true None x e = cc
owed-out o lane next true (Some by) x e = subst (IsOut o) (same_Some (FrameAnswer lane next by) x e) tt
owed-out o lane next false r x e = cc

routed-out : (o : Option Adoption) (lane : ℕ) (f : FrameHead × List ℕ) (r : Option (List ℤ)) (x : Outgoing) → option_map (λ by. Fragment lane f.0 f.1 by) r ≡ Some x → IsOut o x
routed-out o lane f None x e = cc
routed-out o lane f (Some by) x e = subst (IsOut o) (same_Some (Fragment lane f.0 f.1 by) x e) tt

due-out : (o : Option Adoption) (n : NodeState) (lane : ℕ) (f : Option (FrameHead × List ℕ)) (x : Outgoing) → option_and_then (λ f. option_map (λ by. Fragment lane f.0 f.1 by) (lane_route n lane)) f ≡ Some x → IsOut o x
due-out o n lane None x e = cc
due-out o n lane (Some f) x e = routed-out o lane f (lane_route n lane) x e

to_send-out : (o : Option Adoption) (host : ℕ) (n : NodeState) (x : Outgoing) → IfSome n.staged (IsStaged o) → to_send host n ≡ Some x → IsOut o x
unfolding to_send
to_send-out o host n x is e =
    either-holds (IsOut o) (option_map outgoing_staged n.staged) _ (λ y. staged-out o n.staged y is)
    (either-holds (IsOut o) (option_map Reply n.reply) _ (reply-out o n.reply)
    (either-holds (IsOut o) (option_map PartAnswer n.part_ack) _ (answer-out o n.part_ack)
    (either-holds (IsOut o) (first_some (owed_on n) (lanes_of n)) _
    (first_some-holds (IsOut o) (owed_on n) (λ lane. owed-out o lane (lane_at n lane).taken (lane_at n lane).owes (lane_route n lane)) (lanes_of n))
    (first_some-holds (IsOut o) (due_on host n) (λ lane y. due-out o n lane (due_frame host n lane) y) (lanes_of n)))))
    x e

-- other bodies aren't read as parts
not_ruled : (p : RoutePart) (b : MappingBody) (t : Bool) → (b ≡ Part p → ⊥) → (if t then Some b else None) ≡ Some (Part p) → ⊥
not_ruled p b true nope e = nope (same_Some b (Part p) e)
not_ruled p b false nope e = cc

not_whole : (p : RoutePart) (f : Front MappingBody) → ((x : MappingBody × List ℕ) → f ≡ Some x → x.0 ≡ Part p → ⊥) → by_the_rules (whole f) ≡ Some (Part p) → ⊥
not_whole p None nope e = cc
not_whole p (Some (b, [])) nope e = not_ruled p b (is_mapping b) (nope (b, []) refl) e
not_whole p (Some (b, byte ∷ rest)) nope e = cc

abbrev is_table_part : MappingBody → Bool
is_table_part (HostProbe number mapper back) = false
is_table_part (HostReply number from) = false
is_table_part (Loopback number mapper) = false
is_table_part (Part p) = true
is_table_part (PartAck epoch from part) = false

not_part : (p : RoutePart) (b : MappingBody) → is_table_part b ≡ false → b ≡ Part p → ⊥
not_part p b nope e = let bad : is_table_part b ≡ true = ap is_table_part e in cc

not_mapped : {A : Type 0} (p : RoutePart) (g : A → MappingBody) (f : Front A) → ((a : A) → is_table_part (g a) ≡ false) → (x : MappingBody × List ℕ) → option_map (λ a. (g a.0, a.1)) f ≡ Some x → x.0 ≡ Part p → ⊥
not_mapped p g f nope x e =
    let m = map-some (λ a. (g a.0, a.1)) f x e in
    not_part p x.0 (ap (λ y. is_table_part y.0) (sym m.1.1) ∙ nope m.0.0)

no_probe : (p : RoutePart) (bytes : List ℕ) → decode_mapping (1 ∷ bytes) ≡ Some (Part p) → ⊥
no_probe p bytes e =
    let f : (ℕ × ℕ) × List ℕ → Front MappingBody = λ two. option_map (λ back. (HostProbe two.0.0 two.0.1 back.0, back.1)) (route_front two.1) in
    not_whole p (option_and_then f (two_front w64 8 bytes))
    (λ x d. let t = then-some f (two_front w64 8 bytes) x d in not_mapped p (λ back. HostProbe t.0.0.0 t.0.0.1 back) (route_front t.0.1) (λ a. refl) x t.1.1)
    e

no_reply : (p : RoutePart) (bytes : List ℕ) → decode_mapping (2 ∷ bytes) ≡ Some (Part p) → ⊥
no_reply p bytes e = not_whole p (option_map (λ two. (HostReply two.0.0 two.0.1, two.1)) (two_front w64 8 bytes)) (not_mapped p (λ (two : ℕ × ℕ). HostReply two.0 two.1) (two_front w64 8 bytes) (λ a. refl)) e

no_loop : (p : RoutePart) (bytes : List ℕ) → decode_mapping (3 ∷ bytes) ≡ Some (Part p) → ⊥
no_loop p bytes e = not_whole p (option_map (λ two. (Loopback two.0.0 two.0.1, two.1)) (two_front w64 8 bytes)) (not_mapped p (λ (two : ℕ × ℕ). Loopback two.0 two.1) (two_front w64 8 bytes) (λ a. refl)) e

no_ack : (p : RoutePart) (bytes : List ℕ) → decode_mapping (5 ∷ bytes) ≡ Some (Part p) → ⊥
no_ack p bytes e =
    let f : (ℕ × ℕ) × List ℕ → Front MappingBody = λ two. option_map (λ part. (PartAck two.0.0 two.0.1 part.0, part.1)) (byte_front two.1) in
    not_whole p (option_and_then f (two_front w32 4 bytes))
    (λ x d. let t = then-some f (two_front w32 4 bytes) x d in not_mapped p (λ part. PartAck t.0.0.0 t.0.0.1 part) (byte_front t.0.1) (λ a. refl) x t.1.1)
    e

-- the packet of what is sent
gm_body : (o : Option Adoption) (payload : List ℕ) → IsBody o Gm payload
gm_body o payload = record { part = λ p e. absurd (apart e) }
  where
    apart : Gm ≡ Mapping → ⊥
    apart e = cc

packet-built : (o : Option Adoption) (host number : ℕ) (x : Outgoing) → IsOut o x → Built (IsBody o) (packet_for host number x)
unfolding packet_for
packet-built o host number (Probe walk true) is =
    record { route = walk ++ pos 0 ∷ way_back walk; kind = Mapping; payload = mapping_bytes (Loopback number host); written = refl; good = record { part = λ p m e. absurd (no_loop p (to_be_bytes w64 number ++ to_be_bytes w16 host) e) } }
packet-built o host number (Probe walk false) is =
    record { route = walk; kind = Mapping; payload = mapping_bytes (HostProbe number host (way_back walk)); written = refl; good = record { part = λ p m e. absurd (no_probe p (to_be_bytes w64 number ++ to_be_bytes w16 host ++ route_bytes (way_back walk)) e) } }
packet-built o host number (TablePart part by) is =
    record { route = by; kind = Mapping; payload = mapping_bytes (Part part); written = refl; good = record { part = λ p m e. subst (λ q. IsPart o q.dst q) (part-read part p is.1 e) is.0 } }
packet-built o host number (Reply r) is =
    record { route = r.back; kind = Mapping; payload = mapping_bytes (HostReply r.number host); written = refl; good = record { part = λ p m e. absurd (no_reply p (to_be_bytes w64 r.number ++ to_be_bytes w16 host) e) } }
packet-built o host number (PartAnswer a) is =
    record { route = a.back; kind = Mapping; payload = mapping_bytes (PartAck a.epoch host a.part); written = refl; good = record { part = λ p m e. absurd (no_ack p (to_be_bytes w32 a.epoch ++ to_be_bytes w16 host ++ a.part ∷ []) e) } }
packet-built o host number (FrameAnswer lane next by) is =
    let bytes : List ℕ = ack_bytes (ack_on (takes_from host lane) next) in
    record { route = by; kind = Gm; payload = bytes; written = refl; good = gm_body o bytes }
packet-built o host number (Fragment lane head part by) is =
    record { route = by; kind = Gm; payload = frame_bytes head part; written = refl; good = gm_body o (frame_bytes head part) }

-- the packet of what is sent has a route, a kind and a payload
pub packet-shape : (host number : ℕ) (x : Outgoing) → Built (λ kind payload. Unit {0}) (packet_for host number x)
unfolding packet_for
packet-shape host number (Probe walk true) = record { route = walk ++ pos 0 ∷ way_back walk; kind = Mapping; payload = mapping_bytes (Loopback number host); written = refl; good = tt }
packet-shape host number (Probe walk false) = record { route = walk; kind = Mapping; payload = mapping_bytes (HostProbe number host (way_back walk)); written = refl; good = tt }
packet-shape host number (TablePart part by) = record { route = by; kind = Mapping; payload = mapping_bytes (Part part); written = refl; good = tt }
packet-shape host number (Reply r) = record { route = r.back; kind = Mapping; payload = mapping_bytes (HostReply r.number host); written = refl; good = tt }
packet-shape host number (PartAnswer a) = record { route = a.back; kind = Mapping; payload = mapping_bytes (PartAck a.epoch host a.part); written = refl; good = tt }
packet-shape host number (FrameAnswer lane next by) = record { route = by; kind = Gm; payload = ack_bytes (ack_on (takes_from host lane) next); written = refl; good = tt }
packet-shape host number (Fragment lane head part by) = record { route = by; kind = Gm; payload = frame_bytes head part; written = refl; good = tt }

pub sent-built : (o : Option Adoption) (host number : ℕ) (n : NodeState) (x : Outgoing) → IfSome n.staged (IsStaged o) → to_send host n ≡ Some x → Built (IsBody o) (packet_for host number x)
sent-built o host number n x is e = packet-built o host number x (to_send-out o host n x is e)

pub after_sending-host : (o : Option Adoption) (host : ℕ) (n : NodeState) (x : Outgoing) → IsHostOf o host n → IsHostOf o host (after_sending n x)
unfolding after_sending
after_sending-host o host n (Probe walk looped) is = record { staged = tt; table = is.table }
after_sending-host o host n (TablePart part by) is = record { staged = tt; table = is.table }
after_sending-host o host n (Reply r) is = record { staged = is.staged; table = is.table }
after_sending-host o host n (PartAnswer a) is = record { staged = is.staged; table = is.table }
after_sending-host o host n (FrameAnswer lane next by) is = record { staged = is.staged; table = is.table }
after_sending-host o host n (Fragment lane head part by) is = record { staged = is.staged; table = is.table }

pub given_up-host : (o : Option Adoption) (host : ℕ) (n : NodeState) → IsHostOf o host n → IsHostOf o host (given_up n)
given_up-host o host n is = record { staged = tt; table = is.table }

pub staged-host : (o : Option Adoption) (host : ℕ) (n : NodeState) (s : Staged) → IsStaged o s → IsHostOf o host n → IsHostOf o host (record n { staged = Some s })
staged-host o host n s new is = record { staged = new; table = is.table }

pub node_expired-host : (o : Option Adoption) (host : ℕ) (n : NodeState) (peer : ℕ) → IsHostOf o host n → IsHostOf o host (node_expired n peer)
node_expired-host o host n peer is =
    let m : NodeState = with_expired n (lane_of peer 0) in
    lane-host o host m (lane_of peer 1) (lane_expired (lane_at m (lane_of peer 1))) (lane-host o host n (lane_of peer 0) (lane_expired (lane_at n (lane_of peer 0))) is)

-- what its clients call for
pub call-host : (o : Option Adoption) (host : ℕ) {n : NodeState} {c : Option ClientState} {port : ℕ} {call : Called} → Call n c port call → IsHostOf o host n → IsHostOf o host call.node
call-host o host Call.rests is = is
call-host o host (Call.opens sends recvs d) is = record { staged = is.staged; table = is.table }
call-host o host (Call.closes p d e) is = record { staged = is.staged; table = is.table }
call-host o host (Call.provides size prio t ts p d e f g k) is = record { staged = is.staged; table = is.table }
call-host o host (Call.accepts s t ts p d e f g k) is = record { staged = is.staged; table = is.table }
call-host o host (Call.hands_sent t buffer p d e f g) is = record { staged = is.staged; table = is.table }
call-host o host (Call.hands_received t buffer from sport prio len p d e f g) is = record { staged = is.staged; table = is.table }
