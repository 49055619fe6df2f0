-- What a host hears brings it no more than was asked for, and what it sends is paid for.
use Rattle.std.proofs.Common.{◌≡◌, ◌≤◌, ◌+◌, ℕ, zero, suc, Bool, true, false, ℤ, List, Option, Some, None, option_map, is_some, Ok, refl, ap, ◌∙◌, subst, arith, if◌then◌else◌}
use Rattle.std.specs.List.{range_with_len}
use Rattle.std.proofs.lemmas.Option.{same_Some}
use Rattle.packet_defs.specs.declared.kind.Kind.{Kind}
use Rattle.packet_defs.specs.declared.kind.Kind.TheVariants.{Mapping, Gm}
use Rattle.packet_defs.specs.Host.{decode as decode_packet}
use Rattle.gm_defs.specs.declared.frame.FrameHead.{FrameHead}
use Rattle.gm_defs.specs.declared.frame.Ack.{Ack}
use Rattle.gm_defs.specs.declared.token.Took.{Took}
use Rattle.gm_defs.specs.Body.{part_in}
use Rattle.gm_defs.specs.Fragment.{frame_of}
use Rattle.gm_defs.specs.Connection.{due}
use Rattle.gm_defs.proofs.Choices.{then-some}
use Rattle.world_defs.specs.Mapping.MappingBody.{HostProbe, Part}
use Rattle.world_defs.specs.declared.arrival.Arrival.{Arrival}
use Rattle.world_defs.specs.Table.{applied}
use Rattle.world_defs.specs.Lane.{LaneState, lane_acknowledged, tickets_finished, lane_after, lane_answered, lane_sent_one}
use Rattle.world_defs.specs.Node.{NodeState, Staged, StagedReply, StagedAck, StagedProbe, StagedPart, Outgoing, Reply, PartAnswer, FrameAnswer, Fragment, sends_on, lane_at, with_lane, lane_route, outgoing_staged, owed_on, due_on, due_frame, either, first_some, lanes_of, to_send, after_sending}
use Rattle.world_defs.specs.Hearing.{PacketBody, OfMapper, OfFrame, part_answer, mapping_read, messages_read, packet_read, message_of, frame_lane, ack_lane, frame_heard, frame_took, ack_heard, hear}
use Rattle.world_defs.proofs.Hearings.{Hearing, hearing, delivered_after-rest, all_finished-rest}
use Rattle.injection_bounds.specs.Credit.{asks, wire_credit, node_credit}
use Rattle.injection_bounds.proofs.Lanes.{lane-set, answered-lane, sent-lane, acknowledged-lane, heard-lane}
use Rattle.injection_bounds.proofs.Packets.{read-credit, out_asks}

-- a frame, and an acknowledgement
frame-credit : (n : NodeState) (h : FrameHead) (part : List ℕ) (t : Took) → node_credit (frame_heard n h part t).1 ≤ node_credit n + 1
frame-credit n h part t =
    let lane : ℕ = frame_lane h in
    let l : LaneState = lane_after (lane_at n lane) t (message_of h part) in
    let d = ap node_credit (delivered_after-rest (with_lane n lane l) h part t) in
    let s = lane-set n lane l in
    let o = heard-lane (lane_at n lane) t (message_of h part) in
    omega (arith, d, s, o)

ack-credit : (n : NodeState) (a : Ack) → node_credit (ack_heard n a) ≤ node_credit n
ack-credit n a =
    let lane : ℕ = ack_lane a in
    let l : LaneState = lane_acknowledged (lane_at n lane) a.next in
    let f = ap node_credit (all_finished-rest (with_lane n lane l) (tickets_finished (lane_at n lane) a.next)) in
    let s = lane-set n lane l in
    let o = acknowledged-lane (lane_at n lane) a.next in
    omega (arith, f, s, o)

one-few : (b : Bool) → (if b then 1 else 0) ≤ 1
one-few true = omega arith
one-few false = omega arith

pub hear-credit : (host hosts : ℕ) (n : NodeState) (wire : List ℕ) → node_credit (hear host hosts n wire).1 ≤ node_credit n + wire_credit wire
hear-credit host hosts n wire = by (hearing host hosts n wire)
  where
    low : asks (packet_read (decode_packet wire)) ≤ wire_credit wire
    low = read-credit wire

    asked : (k : Kind) (body : List ℕ) (b : PacketBody) → decode_packet wire ≡ Ok (k, body) → packet_read (Ok (k, body)) ≡ b → asks (packet_read (decode_packet wire)) ≡ asks b
    asked k body b e d = ap (λ r. asks (packet_read r)) e ∙ ap asks d

    by : {r : Arrival × NodeState} → Hearing host hosts n wire r → node_credit r.1 ≤ node_credit n + wire_credit wire
    by (Hearing.stays a) = omega arith
    by (Hearing.probe body number mapper back e d) = let one = asked Mapping body (OfMapper (HostProbe number mapper back)) e (ap mapping_read d) in omega (arith, low, one)
    by (Hearing.part body p e d mine) =
        let one = asked Mapping body (OfMapper (Part p)) e (ap mapping_read d) in
        let few = one-few (is_some (part_answer n.part_ack p (applied n.table p).0)) in
        omega (arith, low, one, few)
    by (Hearing.frame body h e d mine from) =
        let one = asked Gm body (OfFrame h (part_in body)) e (ap (messages_read body) d) in
        let more = frame-credit n h (part_in body) (frame_took n h) in
        omega (arith, low, one, more)
    by (Hearing.ack body a e d mine from) = let same = ack-credit n a in omega (arith, same)

-- What a host sends takes one more from its credit than its packet asks for.
abbrev pub IsPaid : NodeState → Outgoing → Type 0
IsPaid n x = node_credit (after_sending n x) + out_asks x + 1 ≤ node_credit n

staged-paid : (n : NodeState) (s : Staged) → n.staged ≡ Some s → IsPaid n (outgoing_staged s)
unfolding after_sending
staged-paid n (StagedProbe walk looped) e = let h : ◌≡◌ {A = ℕ} (if is_some n.staged then 2 else 0) 2 = ap (λ o. if is_some o then 2 else 0) e in omega (arith, h)
staged-paid n (StagedPart part by) e = let h : ◌≡◌ {A = ℕ} (if is_some n.staged then 2 else 0) 2 = ap (λ o. if is_some o then 2 else 0) e in omega (arith, h)

reply-paid : (n : NodeState) (r : StagedReply) → n.reply ≡ Some r → IsPaid n (Reply r)
unfolding after_sending
reply-paid n r e = let h : ◌≡◌ {A = ℕ} (if is_some n.reply then 1 else 0) 1 = ap (λ o. if is_some o then 1 else 0) e in omega (arith, h)

answer-paid : (n : NodeState) (a : StagedAck) → n.part_ack ≡ Some a → IsPaid n (PartAnswer a)
unfolding after_sending
answer-paid n a e = let h : ◌≡◌ {A = ℕ} (if is_some n.part_ack then 1 else 0) 1 = ap (λ o. if is_some o then 1 else 0) e in omega (arith, h)

owed-paid : (n : NodeState) (lane next : ℕ) (by : List ℤ) → (lane_at n lane).owes ≡ true → IsPaid n (FrameAnswer lane next by)
unfolding after_sending
owed-paid n lane next by e =
    let s = lane-set n lane (lane_answered (lane_at n lane)) in
    let o = answered-lane (lane_at n lane) e in
    omega (arith, s, o)

due-paid : (n : NodeState) (lane number : ℕ) (head : FrameHead) (part : List ℕ) (by : List ℤ) → due (lane_at n lane).sender ≡ Some number → IsPaid n (Fragment lane head part by)
unfolding after_sending
due-paid n lane number head part by e =
    let s = lane-set n lane (lane_sent_one (lane_at n lane)) in
    let o = sent-lane (lane_at n lane) number e in
    omega (arith, s, o)

either-holds : {A : Type 0} (P : A → Type 0) (a b : Option A) → ((x : A) → a ≡ Some x → P x) → ((x : A) → b ≡ Some x → P x) → (x : A) → either a b ≡ Some x → P x
either-holds P (Some y) b f g x e = f x e
either-holds P None b f g x e = g x e

first_some-holds : {A : Type 0} (P : A → Type 0) (f : ℕ → Option A) (a k : ℕ) → ((j : ℕ) (x : A) → f j ≡ Some x → P x) → (x : A) → first_some f (range_with_len a k) ≡ Some x → P x
first_some-holds P f a zero all x e = cc
first_some-holds P f a (suc k) all x e = either-holds P (f a) (first_some f (range_with_len (a + 1) k)) (all a) (first_some-holds P f (a + 1) k all) x e

module _ (host : ℕ) (n : NodeState) where
  staged-out : (s : Option Staged) (x : Outgoing) → n.staged ≡ s → option_map outgoing_staged s ≡ Some x → IsPaid n x
  staged-out None x d e = cc
  staged-out (Some s) x d e = subst (IsPaid n) (same_Some (outgoing_staged s) x e) (staged-paid n s d)

  reply-out : (s : Option StagedReply) (x : Outgoing) → n.reply ≡ s → option_map Reply s ≡ Some x → IsPaid n x
  reply-out None x d e = cc
  reply-out (Some r) x d e = subst (IsPaid n) (same_Some (Reply r) x e) (reply-paid n r d)

  answer-out : (s : Option StagedAck) (x : Outgoing) → n.part_ack ≡ s → option_map PartAnswer s ≡ Some x → IsPaid n x
  answer-out None x d e = cc
  answer-out (Some a) x d e = subst (IsPaid n) (same_Some (PartAnswer a) x e) (answer-paid n a d)

  owed-out : (lane : ℕ) (b : Bool) (r : Option (List ℤ)) (x : Outgoing) → (lane_at n lane).owes ≡ b → (if b then option_map (λ by. FrameAnswer lane (lane_at n lane).taken by) r else None) ≡ Some x → IsPaid n x
  owed-out lane true None x d e = cc
  owed-out lane true (Some by) x d e = subst (IsPaid n) (same_Some (FrameAnswer lane (lane_at n lane).taken by) x e) (owed-paid n lane (lane_at n lane).taken by d)
  owed-out lane false r x d e = cc

  routed-out : (lane number : ℕ) (f : FrameHead × List ℕ) (r : Option (List ℤ)) (x : Outgoing) → due (lane_at n lane).sender ≡ Some number → option_map (λ by. Fragment lane f.0 f.1 by) r ≡ Some x → IsPaid n x
  routed-out lane number f None x d e = cc
  routed-out lane number f (Some by) x d e = subst (IsPaid n) (same_Some (Fragment lane f.0 f.1 by) x e) (due-paid n lane number f.0 f.1 by d)

  due-out : (lane : ℕ) (x : Outgoing) → due_on host n lane ≡ Some x → IsPaid n x
  due-out lane x e =
      let f = then-some (λ f. option_map (λ by. Fragment lane f.0 f.1 by) (lane_route n lane)) (due_frame host n lane) x e in
      let d = then-some (λ seq. frame_of (sends_on host lane) (lane_at n lane).sent seq) (due (lane_at n lane).sender) f.0 f.1.0 in
      routed-out lane d.0 f.0 (lane_route n lane) x d.1.0 f.1.1

  pub out-paid : (x : Outgoing) → to_send host n ≡ Some x → IsPaid n x
  unfolding to_send
  out-paid x e =
      either-holds (IsPaid n) (option_map outgoing_staged n.staged) _ (λ y. staged-out n.staged y refl)
      (either-holds (IsPaid n) (option_map Reply n.reply) _ (λ y. reply-out n.reply y refl)
      (either-holds (IsPaid n) (option_map PartAnswer n.part_ack) _ (λ y. answer-out n.part_ack y refl)
      (either-holds (IsPaid n) (first_some (owed_on n) (lanes_of n)) _
      (first_some-holds (IsPaid n) (owed_on n) 0 _ (λ lane y. owed-out lane (lane_at n lane).owes (lane_route n lane) y refl))
      (first_some-holds (IsPaid n) (due_on host n) 0 _ due-out))))
      x e
