-- What each act makes of the messages sent and got: they stay, or one comes after them.
use Rattle.std.proofs.Common.{◌≡◌, ℕ, List, get_or, Option, None, refl, sym, ◌∙◌, subst}
use Rattle.gm_defs.specs.declared.message.Message.{Message}
use Rattle.gm_defs.specs.declared.token.Took.{Took}
use Rattle.gm_defs.specs.declared.token.Took.TheVariants.{NotNext, NoToken, Part, Whole}
use Rattle.gm_defs.specs.Body.{part_in}
use Rattle.world_defs.specs.declared.event.Event.{Event}
use Rattle.world_defs.specs.declared.effect.Effect.{Effect}
use Rattle.world_defs.specs.Lane.{LaneState, Ticket, new_lane, ending, with_message, lane_acknowledged, lane_expired, lane_sent_one, lane_answered, tickets_finished, lane_after}
use Rattle.world_defs.specs.Node.{NodeState, Outgoing, Probe, TablePart, Reply, PartAnswer, FrameAnswer, Fragment, lane_of, sending_lane, taking_lane, lane_at, with_lane, with_expired, after_sending, node_expired}
use Rattle.world_defs.specs.Hearing.{frame_lane, ack_lane, message_of, delivered_after, frame_took, all_finished}
use Rattle.world_defs.specs.Client.{ClientState, Called, wanted_lane, wanted_message}
use Rattle.world_defs.specs.World.{WorldState, host_count, node_at}
use Rattle.world_defs.proofs.Lists.{each-set}
use Rattle.world_defs.proofs.Views.{HostChange}
use Rattle.world_defs.proofs.Calls.{call_view}
use Rattle.world_defs.specs.Acts.{Act, acted}
use Rattle.world_defs.proofs.Hosts.{NodeChange, nodes_view, each_node}
use Rattle.message_laws.specs.Growing.{GrowsByOne, stays, one_more, MessagesOnlyGrow}
use Rattle.message_laws.proofs.Heard.{IsHeard, quietly, of_frame, of_ack, hear-is}
use Rattle.message_laws.proofs.Calls.{CallDoes, call-does}
use Rattle.world_defs.proofs.Hearings.{delivered_after-lanes, all_finished-lanes}

-- one lane
record LaneGrows (l m : LaneState) : Type 0 where
  sent : GrowsByOne l.sent m.sent
  got : GrowsByOne l.got m.got

lane-stays : (l m : LaneState) → m.sent ≡ l.sent → m.got ≡ l.got → LaneGrows l m
lane-stays l m e f = record { sent = stays e; got = stays f }

lane-same : (l : LaneState) → LaneGrows l l
lane-same l = lane-stays l l refl refl

after-grows : (l : LaneState) (t : Took) (m : Message) → LaneGrows l (lane_after l t m)
after-grows l NotNext m = lane-stays l (lane_after l NotNext m) refl refl
after-grows l NoToken m = lane-stays l (lane_after l NoToken m) refl refl
after-grows l Part m = lane-stays l (lane_after l Part m) refl refl
after-grows l Whole m = record { sent = stays refl; got = one_more (ending l.coming m) refl }

-- the lanes of a host
record NodeGrows (n m : NodeState) : Type 0 where
  each : (k : ℕ) → LaneGrows (lane_at n k) (lane_at m k)

lanes-same : (n m : NodeState) → m.lanes ≡ n.lanes → NodeGrows n m
lanes-same n m e = record { each = λ k. subst (λ ls. LaneGrows (lane_at n k) (get_or ls k new_lane)) (sym e) (lane-same (lane_at n k)) }

one-lane : (n : NodeState) (k : ℕ) (q : LaneState) → LaneGrows (lane_at n k) q → NodeGrows n (with_lane n k q)
one-lane n k q here = record { each = λ j. each-set (λ i x. LaneGrows (lane_at n i) x) n.lanes k j q new_lane here (λ i. lane-same (lane_at n i)) }

then-same : (n m r : NodeState) → NodeGrows n m → r.lanes ≡ m.lanes → NodeGrows n r
then-same n m r k e = record { each = λ j. subst (λ ls. LaneGrows (lane_at n j) (get_or ls j new_lane)) (sym e) (k.each j) }

-- a packet is heard
heard-grows : (host hosts : ℕ) (n : NodeState) (wire : List ℕ) (m : NodeState) → IsHeard host hosts n wire m → NodeGrows n m
heard-grows host hosts n wire m (quietly e f) = lanes-same n m e
heard-grows host hosts n wire m (of_frame body h e d mine there now) =
    let l : LaneState = lane_at n (frame_lane h) in
    let q : LaneState = lane_after l (frame_took n h) (message_of h (part_in body)) in
    let v : NodeState = with_lane n (frame_lane h) q in
    let after : NodeState = delivered_after v h (part_in body) (frame_took n h) in
    subst (NodeGrows n) (sym now) (then-same n v after (one-lane n (frame_lane h) q (after-grows l (frame_took n h) (message_of h (part_in body)))) (delivered_after-lanes v h (part_in body) (frame_took n h)))
heard-grows host hosts n wire m (of_ack body a e d mine there now) =
    let l : LaneState = lane_at n (ack_lane a) in
    let q : LaneState = lane_acknowledged l a.next in
    let v : NodeState = with_lane n (ack_lane a) q in
    let gone : List Ticket = tickets_finished l a.next in
    subst (NodeGrows n) (sym now) (then-same n v (all_finished v gone) (one-lane n (ack_lane a) q (lane-stays l q refl refl)) (all_finished-lanes v gone))

-- an item is sent
sending-grows : (n : NodeState) (out : Outgoing) → NodeGrows n (after_sending n out)
unfolding after_sending
sending-grows n (Probe walk looped) = lanes-same n (record n { staged = None }) refl
sending-grows n (TablePart part by) = lanes-same n (record n { staged = None }) refl
sending-grows n (Reply r) = lanes-same n (record n { reply = None }) refl
sending-grows n (PartAnswer a) = lanes-same n (record n { part_ack = None }) refl
sending-grows n (FrameAnswer lane next by) = one-lane n lane (lane_answered (lane_at n lane)) (lane-stays (lane_at n lane) (lane_answered (lane_at n lane)) refl refl)
sending-grows n (Fragment lane head part by) = one-lane n lane (lane_sent_one (lane_at n lane)) (lane-stays (lane_at n lane) (lane_sent_one (lane_at n lane)) refl refl)

-- a time is up: both lanes of a peer have other numbers, and the same messages
record LanesStay (n m : NodeState) : Type 0 where
  sent : (k : ℕ) → (lane_at m k).sent ≡ (lane_at n k).sent
  got : (k : ℕ) → (lane_at m k).got ≡ (lane_at n k).got

with_expired-stays : (n : NodeState) (lane : ℕ) → LanesStay n (with_expired n lane)
with_expired-stays n lane = record {
  sent = λ j. each-set (λ i (x : LaneState). x.sent ≡ (lane_at n i).sent) n.lanes lane j (lane_expired (lane_at n lane)) new_lane refl (λ i. refl);
  got = λ j. each-set (λ i (x : LaneState). x.got ≡ (lane_at n i).got) n.lanes lane j (lane_expired (lane_at n lane)) new_lane refl (λ i. refl);
}

expired-grows : (n : NodeState) (peer : ℕ) → NodeGrows n (node_expired n peer)
expired-grows n peer =
    let m : NodeState = with_expired n (lane_of peer 0) in
    let a = with_expired-stays n (lane_of peer 0) in
    let b = with_expired-stays m (lane_of peer 1) in
    record { each = λ k. lane-stays (lane_at n k) (lane_at (node_expired n peer) k) (b.sent k ∙ a.sent k) (b.got k ∙ a.got k) }

-- a client calls
does-grow : {n : NodeState} {c : Option ClientState} {port : ℕ} {call : Called} → CallDoes n c port call → NodeGrows n call.node
does-grow {n = n} (CallDoes.at_port {call = call} i e) = lanes-same n call.node e
does-grow {n = n} (CallDoes.accepts s p d t ts e f g k) =
    let l : LaneState = lane_at n (wanted_lane s) in
    let q : LaneState = with_message l (wanted_message s) (record { port = s.port; token = t }) in
    then-same n (with_lane n (wanted_lane s) q) _ (one-lane n (wanted_lane s) q (record { sent = one_more (wanted_message s) refl; got = stays refl })) refl

-- every act
module _ (w : WorldState) where
  itself-grows : {e : Event} {x : Effect} {h : ℕ} {m : NodeState} → HostChange w e x h m → NodeGrows (node_at w h) m
  itself-grows (HostChange.asks {h = h}) = lanes-same (node_at w h) _ refl
  itself-grows (HostChange.stages a p by d e f) = lanes-same (node_at w a.mapper) _ refl
  itself-grows (HostChange.expires {h = h} {peer = peer} k) = expired-grows (node_at w h) peer
  itself-grows (HostChange.gives_up {h = h} k) = lanes-same (node_at w h) _ refl
  itself-grows (HostChange.revokes {h = h} a d) = lanes-same (node_at w h) _ refl

  node-grows : (a : Act) (h : ℕ) (m : NodeState) → NodeChange w a h m → NodeGrows (node_at w h) m
  node-grows a h m (NodeChange.itself k) = itself-grows k
  node-grows a h m (NodeChange.hears packet j d e) = heard-grows j (host_count w) (node_at w j) packet.wire m (hear-is j (host_count w) (node_at w j) packet.wire)
  node-grows a h m (NodeChange.sends c out d e) = sending-grows (node_at w h) out
  node-grows a h m (NodeChange.calls k) = does-grow (call-does (call_view k))
  node-grows a h m NodeChange.adopts = lanes-same (node_at w h) _ refl

  acted-grows : (a : Act) (h : ℕ) → NodeGrows (node_at w h) (node_at (acted w a) h)
  acted-grows a = each_node (λ h. NodeGrows (node_at w h)) (nodes_view w a) (λ h. lanes-same (node_at w h) (node_at w h) refl) (node-grows a)

pub messages-grow : MessagesOnlyGrow
messages-grow w a c = record { sent = ((acted-grows w a c.src).each (sending_lane c)).sent; got = ((acted-grows w a c.dst).each (taking_lane c)).got }
