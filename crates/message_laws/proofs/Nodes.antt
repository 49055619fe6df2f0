-- What each change of a host keeps of its lanes, and what it sends.
use Rattle.std.proofs.Common.{◌≡◌, ◌+◌, ◌≤◌, ◌<◌, ◌^◌, ℕ, zero, suc, Bool, true, false, ℤ, pos, List, ◌∷◌, ◌++◌, length, Option, Some, None, option_map, Ok, refl, sym, ap, ◌∙◌, subst, arith, if◌then◌else◌}
use Rattle.std.specs.Prelude.{slice_index_or, option_and_then, ◌%◌}
use Rattle.std.specs.List.{AllByRecursion, range_with_len}
use Rattle.std.proofs.lemmas.Bool.Decides.{nat_tests}
use Rattle.std.proofs.lemmas.List.{length-set, length-map}
use Rattle.std.proofs.lemmas.List.FromFn.{length-range_with_len}
use Rattle.std.proofs.lemmas.Option.{same_Some}
use Rattle.packet_defs.specs.declared.kind.Kind.{Kind}
use Rattle.packet_defs.specs.declared.kind.Kind.TheVariants.{Mapping, Gm}
use Rattle.packet_defs.specs.Host.{decode as decode_packet}
use Rattle.gm_defs.specs.declared.message.Message.{Message}
use Rattle.gm_defs.specs.declared.frame.FrameHead.{FrameHead}
use Rattle.gm_defs.specs.declared.frame.Ack.{Ack}
use Rattle.gm_defs.specs.declared.frame.ConnectionKey.{ConnectionKey}
use Rattle.gm_defs.specs.declared.frame.GmBody.TheVariants.{Frame}
use Rattle.gm_defs.specs.Body.{message_limit, number_limit, part_in, frame_bytes, ack_bytes}
use Rattle.gm_defs.specs.Fragment.{fragments, frame_of, piece_count, IsHonestFrame}
use Rattle.gm_defs.specs.Connection.{key_of, ack_on, due, is_spent}
use Rattle.world_defs.specs.Mapping.{mapping_bytes}
use Rattle.world_defs.specs.Mapping.MappingBody.{HostProbe, HostReply, Loopback, Part, PartAck}
use Rattle.gm_defs.specs.Port.{is_too_long}
use Rattle.gm_defs.proofs.Choices.{then-some}
use Rattle.world_defs.specs.declared.arrival.Arrival.{Arrival}
use Rattle.world_defs.specs.Lane.{LaneState, new_lane, with_message, lane_acknowledged, lane_after, tickets_finished}
use Rattle.world_defs.specs.Node.{NodeState, Staged, StagedReply, StagedAck, StagedProbe, StagedPart, Outgoing, Probe, TablePart, Reply, PartAnswer, FrameAnswer, Fragment, prio_place, lane_of, peer_of, prio_of, sends_on, takes_from, lane_at, with_lane, lane_route, port_at, way_back, outgoing_staged, owed_on, due_on, due_frame, either, first_some, lanes_of, to_send, packet_for, after_sending, with_expired, node_expired}
use Rattle.world_defs.proofs.Lanes.{facing, facing-taking, prio_of-lane}
use Rattle.world_defs.specs.Hearing.{frame_lane, ack_lane, port_takes, message_of, delivered_after, frame_heard, frame_took, ack_heard, hear}
use Rattle.world_defs.specs.Client.{ClientState, Called, client_bytes, wanted_lane, wanted_message}
use Rattle.world_defs.proofs.Hearings.{Hearing, hearing, delivered_after-lanes, all_finished-lanes}
use Rattle.world_defs.proofs.Lists.{each-set}
use Rattle.world_defs.proofs.Calls.{Call, not_refused-acceptable}
use Rattle.table_laws.specs.Packets.{Built}
use Rattle.message_laws.specs.Says.{SaysTrue}
use Rattle.message_laws.proofs.Lanes.{IsNumbered, LaneNext, lane-same, lane-then, sent_one-next, answered-next, expired-next, acknowledged-next, message-next, frame-next}
use Rattle.message_laws.proofs.Frames.{on, frame-says, ack-says}

-- a host's address and its peers' fit into two bytes, and its lanes are numbered
pub record IsHost (h : ℕ) (n : NodeState) : Type 0 where
  pub fits : (lane : ℕ) → lane < length n.lanes → (h < 2 ^ 16) × (peer_of lane < 2 ^ 16)
  pub lanes : (lane : ℕ) → IsNumbered (prio_of lane) (lane_at n lane)

-- what a change of a host keeps, where by each lane these messages were sent to it
pub record NodeNext (S : ℕ → List Message) (n m : NodeState) : Type 0 where
  pub count : length m.lanes ≡ length n.lanes
  pub lanes : (k : ℕ) → LaneNext (S k) (prio_of k) (lane_at n k) (lane_at m k)

pub node-kept : (S : ℕ → List Message) (n m : NodeState) → m.lanes ≡ n.lanes → NodeNext S n m
node-kept S n m e = record { count = ap length e; lanes = λ k. subst (λ l. LaneNext (S k) (prio_of k) (lane_at n k) (slice_index_or l k new_lane)) (sym e) (lane-same (S k) (prio_of k) (lane_at n k)) }

lane-node : (S : ℕ → List Message) (n : NodeState) (k : ℕ) (q : LaneState) → LaneNext (S k) (prio_of k) (lane_at n k) q → NodeNext S n (with_lane n k q)
lane-node S n k q here = record { count = length-set n.lanes k q; lanes = λ p. each-set (λ j x. LaneNext (S j) (prio_of j) (lane_at n j) x) n.lanes k p q new_lane here (λ j. lane-same (S j) (prio_of j) (lane_at n j)) }

-- one change after another
node-then : (S : ℕ → List Message) (n m r : NodeState) → NodeNext S n m → NodeNext S m r → NodeNext S n r
node-then S n m r f g = record { count = g.count ∙ f.count; lanes = λ k. lane-then (S k) (prio_of k) (lane_at n k) (lane_at m k) (lane_at r k) (f.lanes k) (g.lanes k) }

-- further changes that leave the lanes
then-kept : (S : ℕ → List Message) (n m r : NodeState) → NodeNext S n m → r.lanes ≡ m.lanes → NodeNext S n r
then-kept S n m r k e = record { count = ap length e ∙ k.count; lanes = λ p. subst (λ l. LaneNext (S p) (prio_of p) (lane_at n p) (slice_index_or l p new_lane)) (sym e) (k.lanes p) }

-- what it hears
hear_frame-next : (T : ℕ → ℕ → List Message) (host : ℕ) (n : NodeState) (h : FrameHead) (part : List ℕ) → h.dst ≡ host → IsHonestFrame (on T) h part → NodeNext (facing T host) n (frame_heard n h part (frame_took n h)).1
hear_frame-next T host n h part e good =
    let c : ConnectionKey = key_of (Frame h) in
    let lane : ℕ = frame_lane h in
    let l : LaneState = lane_at n lane in
    let q : LaneState = lane_after l (frame_took n h) (message_of h part) in
    let sent : on T c ≡ facing T host lane = sym (facing-taking T c) ∙ ap (λ d. facing T d lane) e in
    let here : LaneNext (on T c) (prio_of lane) l q = frame-next (on T c) (prio_of lane) c l h part (port_takes (port_at n h.dport) h) good in
    let m : NodeState = with_lane n lane q in
    then-kept (facing T host) n m (delivered_after m h part (frame_took n h))
    (lane-node (facing T host) n lane q (subst (λ s. LaneNext s (prio_of lane) l q) sent here))
    (delivered_after-lanes m h part (frame_took n h))

hear_ack-next : (S : ℕ → List Message) (n : NodeState) (a : Ack) → NodeNext S n (ack_heard n a)
hear_ack-next S n a =
    let lane : ℕ = ack_lane a in
    let m : NodeState = with_lane n lane (lane_acknowledged (lane_at n lane) a.next) in
    then-kept S n m (ack_heard n a) (lane-node S n lane _ (acknowledged-next (S lane) (prio_of lane) (lane_at n lane) a.next)) (all_finished-lanes m (tickets_finished (lane_at n lane) a.next))

pub hear-next : (T : ℕ → ℕ → List Message) (host hosts : ℕ) (n : NodeState) (wire : List ℕ) → ((k : Kind) (body : List ℕ) → decode_packet wire ≡ Ok (k, body) → SaysTrue (on T) k body) → NodeNext (facing T host) n (hear host hosts n wire).1
hear-next T host hosts n wire good = by (hearing host hosts n wire)
  where
    by : {r : Arrival × NodeState} → Hearing host hosts n wire r → NodeNext (facing T host) n r.1
    by (Hearing.stays a) = node-kept (facing T host) n n refl
    by (Hearing.probe body number mapper back e d) = node-kept (facing T host) n _ refl
    by (Hearing.part body p e d mine) = node-kept (facing T host) n _ refl
    by (Hearing.frame body h e d mine from) = hear_frame-next T host n h (part_in body) mine (good Gm body e h d)
    by (Hearing.ack body a e d mine from) = hear_ack-next (facing T host) n a

-- what it sends
pub after_sending-next : (S : ℕ → List Message) (n : NodeState) (x : Outgoing) → NodeNext S n (after_sending n x)
unfolding after_sending
after_sending-next S n (Probe walk looped) = node-kept S n _ refl
after_sending-next S n (TablePart part by) = node-kept S n _ refl
after_sending-next S n (Reply r) = node-kept S n _ refl
after_sending-next S n (PartAnswer a) = node-kept S n _ refl
after_sending-next S n (FrameAnswer lane next by) = lane-node S n lane _ (answered-next (S lane) (prio_of lane) (lane_at n lane))
after_sending-next S n (Fragment lane head part by) = lane-node S n lane _ (sent_one-next (S lane) (prio_of lane) (lane_at n lane))

with_expired-next : (S : ℕ → List Message) (n : NodeState) (lane : ℕ) → NodeNext S n (with_expired n lane)
with_expired-next S n lane = lane-node S n lane _ (expired-next (S lane) (prio_of lane) (lane_at n lane))

pub node_expired-next : (S : ℕ → List Message) (n : NodeState) (peer : ℕ) → NodeNext S n (node_expired n peer)
node_expired-next S n peer = node-then S n (with_expired n (lane_of peer 0)) (node_expired n peer) (with_expired-next S n (lane_of peer 0)) (with_expired-next S (with_expired n (lane_of peer 0)) (lane_of peer 1))

-- what its clients call for
-- a message is accepted
not_long : (len : ℕ) → is_too_long len ≡ false → len ≤ message_limit
not_long len e = grind (arith, nat_tests)

client-length : (len seed : ℕ) → length (client_bytes len seed) ≡ len
client-length len seed = length-map (range_with_len 0 len) (λ i. (seed + i) % 256) ∙ length-range_with_len 0 len

pub call-next : (S : ℕ → List Message) {n : NodeState} {c : Option ClientState} {port : ℕ} {call : Called} → Call n c port call → NodeNext S n call.node
call-next S {n = n} Call.rests = node-kept S n _ refl
call-next S {n = n} (Call.opens sends recvs d) = node-kept S n _ refl
call-next S {n = n} (Call.closes p d e) = node-kept S n _ refl
call-next S {n = n} (Call.provides size prio t ts p d e f g k) = node-kept S n _ refl
call-next S {n = n} (Call.accepts s t ts p d e f g k) =
    let free = not_refused-acceptable n s k in
    let long : length (client_bytes s.len s.seed) ≡ s.len = client-length s.len s.seed in
    let lane : ℕ = wanted_lane s in
    let here : LaneNext (S lane) (prio_of lane) (lane_at n lane) (with_message (lane_at n lane) (wanted_message s) (record { port = s.port; token = t })) =
    message-next (S lane) (prio_of lane) (lane_at n lane) (wanted_message s) (record { port = s.port; token = t })
    (subst (λ l. l ≤ message_limit) (sym long) (not_long s.len free.short))
    (sym (prio_of-lane s.dest s.prio))
    (ap (λ l. is_spent (lane_at n lane).sender (piece_count l)) long ∙ free.numbered) in
    then-kept S n _ _ (lane-node S n lane _ here) refl
call-next S {n = n} (Call.hands_sent t buffer p d e f g) = node-kept S n _ refl
call-next S {n = n} (Call.hands_received t buffer from sport prio len p d e f g) = node-kept S n _ refl

-- what it sends says what is true
abbrev IsOut : (ConnectionKey → List Message) → Outgoing → Type 0
IsOut S (Fragment lane head part by) = SaysTrue S Gm (frame_bytes head part)
IsOut S (Probe walk looped) = Unit {0}
IsOut S (TablePart part by) = Unit {0}
IsOut S (Reply r) = Unit {0}
IsOut S (PartAnswer a) = Unit {0}
IsOut S (FrameAnswer lane next by) = Unit {0}

either-holds : {A : Type 0} (P : A → Type 0) (a b : Option A) → ((x : A) → a ≡ Some x → P x) → ((x : A) → b ≡ Some x → P x) → (x : A) → either a b ≡ Some x → P x
either-holds P (Some y) b f g x e = f x e
either-holds P None b f g x e = g x e

first_some-holds : {A : Type 0} (P : A → Type 0) (f : ℕ → Option A) (a k : ℕ) → ((j : ℕ) (x : A) → j < a + k → f j ≡ Some x → P x) → (x : A) → first_some f (range_with_len a k) ≡ Some x → P x
first_some-holds P f a zero all x e = cc
first_some-holds P f a (suc k) all x e =
    either-holds P (f a) (first_some f (range_with_len (a + 1) k)) (λ y. all a y (omega arith)) (first_some-holds P f (a + 1) k (λ j y l. all j y (omega (arith, l)))) x e

staged-out : (S : ConnectionKey → List Message) (s : Option Staged) (x : Outgoing) → option_map outgoing_staged s ≡ Some x → IsOut S x
staged-out S None x e = cc
staged-out S (Some (StagedProbe walk looped)) x e = subst (IsOut S) (same_Some (Probe walk looped) x e) tt
staged-out S (Some (StagedPart part by)) x e = subst (IsOut S) (same_Some (TablePart part by) x e) tt

reply-out : (S : ConnectionKey → List Message) (s : Option StagedReply) (x : Outgoing) → option_map Reply s ≡ Some x → IsOut S x
reply-out S None x e = cc
reply-out S (Some r) x e = subst (IsOut S) (same_Some (Reply r) x e) tt

answer-out : (S : ConnectionKey → List Message) (s : Option StagedAck) (x : Outgoing) → option_map PartAnswer s ≡ Some x → IsOut S x
answer-out S None x e = cc
answer-out S (Some a) x e = subst (IsOut S) (same_Some (PartAnswer a) x e) tt

owed-out : (S : ConnectionKey → List Message) (lane next : ℕ) (b : Bool) (r : Option (List ℤ)) (x : Outgoing) → (if b then option_map (λ by. FrameAnswer lane next by) r else None) ≡ Some x → IsOut S x
owed-out S lane next true None x e = cc
owed-out S lane next true (Some by) x e = subst (IsOut S) (same_Some (FrameAnswer lane next by) x e) tt
owed-out S lane next false r x e = cc

routed-out : (S : ConnectionKey → List Message) (lane : ℕ) (f : FrameHead × List ℕ) (r : Option (List ℤ)) (x : Outgoing) → SaysTrue S Gm (frame_bytes f.0 f.1) → option_map (λ by. Fragment lane f.0 f.1 by) r ≡ Some x → IsOut S x
routed-out S lane f None x is e = cc
routed-out S lane f (Some by) x is e = subst (IsOut S) (same_Some (Fragment lane f.0 f.1 by) x e) is

due-says : (T : ℕ → ℕ → List Message) (host lane : ℕ) (l : LaneState) (f : FrameHead × List ℕ) → IsNumbered (prio_of lane) l → T host lane ≡ l.sent → host < 2 ^ 16 → peer_of lane < 2 ^ 16
    → option_and_then (λ seq. frame_of (sends_on host lane) l.sent seq) (due l.sender) ≡ Some f → SaysTrue (on T) Gm (frame_bytes f.0 f.1)
due-says T host lane l f is same a b e =
    let c : ConnectionKey = sends_on host lane in
    let d = then-some (λ seq. frame_of c l.sent seq) (due l.sender) f e in
    let few = subst (λ ms. length (fragments ms) ≤ number_limit) (sym same) is.few in
    let short = subst (AllByRecursion (λ m. length m.body ≤ message_limit)) (sym same) is.short in
    let of_prio = subst (AllByRecursion (λ m. prio_place m.prio ≡ prio_of lane)) (sym same) is.of_prio in
    let it : frame_of c (T host lane) d.0 ≡ Some f = ap (λ ms. frame_of c ms d.0) same ∙ d.1.1 in
    frame-says T host lane d.0 f few short of_prio a b it

due-out : (T : ℕ → ℕ → List Message) (host : ℕ) (n : NodeState) (lane : ℕ) (x : Outgoing) → IsHost host n → T host lane ≡ (lane_at n lane).sent → lane < length n.lanes → due_on host n lane ≡ Some x → IsOut (on T) x
due-out T host n lane x is same low e =
    let f = then-some (λ f. option_map (λ by. Fragment lane f.0 f.1 by) (lane_route n lane)) (due_frame host n lane) x e in
    let two = is.fits lane low in
    routed-out (on T) lane f.0 (lane_route n lane) x (due-says T host lane (lane_at n lane) f.0 (is.lanes lane) same two.0 two.1 f.1.0) f.1.1

to_send-out : (T : ℕ → ℕ → List Message) (host : ℕ) (n : NodeState) (x : Outgoing) → IsHost host n → ((lane : ℕ) → T host lane ≡ (lane_at n lane).sent) → to_send host n ≡ Some x → IsOut (on T) x
unfolding to_send
to_send-out T host n x is same e =
    let S : ConnectionKey → List Message = on T in
    either-holds (IsOut S) (option_map outgoing_staged n.staged) _ (λ y. staged-out S n.staged y)
    (either-holds (IsOut S) (option_map Reply n.reply) _ (reply-out S n.reply)
    (either-holds (IsOut S) (option_map PartAnswer n.part_ack) _ (answer-out S n.part_ack)
    (either-holds (IsOut S) (first_some (owed_on n) (lanes_of n)) _
    (first_some-holds (IsOut S) (owed_on n) 0 (length n.lanes) (λ lane y l. owed-out S lane (lane_at n lane).taken (lane_at n lane).owes (lane_route n lane) y))
    (first_some-holds (IsOut S) (due_on host n) 0 (length n.lanes) (λ lane y l. due-out T host n lane y is (same lane) (omega (arith, l)))))))
    x e

packet-built : (S : ConnectionKey → List Message) (host number : ℕ) (x : Outgoing) → IsOut S x → Built (SaysTrue S) (packet_for host number x)
unfolding packet_for
packet-built S host number (Probe walk true) is = record { route = walk ++ pos 0 ∷ way_back walk; kind = Mapping; payload = mapping_bytes (Loopback number host); written = refl; good = tt }
packet-built S host number (Probe walk false) is = record { route = walk; kind = Mapping; payload = mapping_bytes (HostProbe number host (way_back walk)); written = refl; good = tt }
packet-built S host number (TablePart part by) is = record { route = by; kind = Mapping; payload = mapping_bytes (Part part); written = refl; good = tt }
packet-built S host number (Reply r) is = record { route = r.back; kind = Mapping; payload = mapping_bytes (HostReply r.number host); written = refl; good = tt }
packet-built S host number (PartAnswer a) is = record { route = a.back; kind = Mapping; payload = mapping_bytes (PartAck a.epoch host a.part); written = refl; good = tt }
packet-built S host number (FrameAnswer lane next by) is = record { route = by; kind = Gm; payload = ack_bytes (ack_on (takes_from host lane) next); written = refl; good = ack-says S (ack_on (takes_from host lane) next) }
packet-built S host number (Fragment lane head part by) is = record { route = by; kind = Gm; payload = frame_bytes head part; written = refl; good = is }

pub sent-built : (T : ℕ → ℕ → List Message) (host number : ℕ) (n : NodeState) (x : Outgoing) → IsHost host n → ((lane : ℕ) → T host lane ≡ (lane_at n lane).sent) → to_send host n ≡ Some x → Built (SaysTrue (on T)) (packet_for host number x)
sent-built T host number n x is same e = packet-built (on T) host number x (to_send-out T host n x is same e)
