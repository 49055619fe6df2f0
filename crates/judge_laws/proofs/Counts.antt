-- What a host hears and sends leaves how many tokens each of its ports was opened with.
use Rattle.std.proofs.Common.{◌≡◌, ℕ, Bool, true, false, List, [], ◌∷◌, get_or, set, Option, Some, None, option_map, refl, sym, ap, ◌∙◌, subst, true≢false, if◌then◌else◌}
use Rattle.gm_defs.specs.declared.frame.FrameHead.{FrameHead}
use Rattle.gm_defs.specs.declared.token.Took.{Took}
use Rattle.gm_defs.specs.declared.token.Took.TheVariants.{NotNext as TookNotNext, NoToken as TookNoToken, Part as TookPart, Whole}
use Rattle.gm_defs.specs.Body.{part_in, is_last}
use Rattle.gm_defs.specs.Token.{PortState, Sending, Provided, taker}
use Rattle.gm_defs.specs.Port.{send_of, ended_by, finished, ended_with, going_on_with, taken_by, delivered}
use Rattle.world_defs.specs.declared.arrival.Arrival.{Arrival}
use Rattle.world_defs.specs.Lane.{Ticket, lane_acknowledged, tickets_finished, lane_after}
use Rattle.world_defs.specs.Node.{NodeState, Outgoing, Probe, TablePart, Reply, PartAnswer, FrameAnswer, Fragment, lane_at, with_lane, new_node, port_at, with_port, after_sending}
use Rattle.world_defs.specs.Hearing.{message_of, delivered_after, frame_heard, frame_took, all_finished, ack_heard, hear, frame_lane, ack_lane}
use Rattle.world_laws.proofs.Lists.{at-set}
use Rattle.world_laws.proofs.Along.{Along}
use Rattle.world_defs.specs.declared.event.Event.{Event}
use Rattle.world_defs.specs.declared.event.Event.TheVariants.{Begin, Close, Provide, Send, Poll}
use Rattle.world_defs.specs.declared.effect.Effect.{Effect}
use Rattle.world_defs.specs.Client.{Called}
use Rattle.world_defs.specs.World.{WorldState, host_count, node_at, with_node, client_at}
use Rattle.world_defs.specs.Step.{step}
use Rattle.world_defs.proofs.Hearings.{Hearing, hearing}
use Rattle.world_defs.proofs.Views.{HostChange, CallChange, Change, view}
use Rattle.world_defs.proofs.Strikes.{injection-nodes, injection-clients}

-- how many tokens a port was opened with, where it is open
abbrev pub counts : Option PortState → Option (ℕ × ℕ)
counts o = option_map (λ p. (p.sends, p.recvs)) o

-- a port that was opened with as many
pub record PortCounted (a b : Option PortState) : Type 0 where
  pub same : counts b ≡ counts a

-- and so each port of a host
pub record NodeCounted (n m : NodeState) : Type 0 where
  pub each : (port : ℕ) → PortCounted (port_at n port) (port_at m port)

port-same : (a : Option PortState) → PortCounted a a
port-same a = record { same = refl }

-- a host with the same ports
pub node-same : (n m : NodeState) → m.ports ≡ n.ports → NodeCounted n m
node-same n m e = record { each = λ port. record { same = ap (λ ps. counts (get_or ps port None)) e } }

node-after : (n m o : NodeState) → NodeCounted n m → NodeCounted m o → NodeCounted n o
node-after n m o k l = record { each = λ port. record { same = (l.each port).same ∙ (k.each port).same } }

with_port-counted : (n : NodeState) (port : ℕ) (p : Option PortState) → PortCounted (port_at n port) p → NodeCounted n (with_port n port p)
with_port-counted n port p k = record { each = λ j. at-set PortCounted port-same n.ports port j p None k }

-- a send that is finished
ended-counted : (p : PortState) (token : ℕ) (o : Option Sending) → PortCounted (Some p) (Some (ended_by p token o))
ended-counted p token None = record { same = refl }
ended-counted p token (Some s) = record { same = refl }

finished-counted : (token : ℕ) (o : Option PortState) → PortCounted o (option_map (λ p. finished p token) o)
finished-counted token None = port-same None
finished-counted token (Some p) = ended-counted p token (send_of p token)

-- a fragment that is taken
taken-counted : (p : PortState) (h : FrameHead) (part : List ℕ) (o : Option Provided) → PortCounted (Some p) (Some (taken_by p h part o))
taken-counted p h part None = record { same = refl }
taken-counted p h part (Some r) = by (is_last h.total h.offset)
  where
    by : (last : Bool) → PortCounted (Some p) (Some (if last then ended_with p h part r else going_on_with p h part r))
    by true = record { same = refl }
    by false = record { same = refl }

delivered-counted : (h : FrameHead) (part : List ℕ) (o : Option PortState) → PortCounted o (option_map (λ p. delivered p h part) o)
delivered-counted h part None = port-same None
delivered-counted h part (Some p) = taken-counted p h part (taker p h)

-- what a host hears
delivered_after-counted : (n : NodeState) (h : FrameHead) (part : List ℕ) (t : Took) → NodeCounted n (delivered_after n h part t)
delivered_after-counted n h part TookNotNext = node-same n n refl
delivered_after-counted n h part TookNoToken = node-same n n refl
delivered_after-counted n h part TookPart =
    with_port-counted n h.dport (option_map (λ p. delivered p h part) (port_at n h.dport)) (delivered-counted h part (port_at n h.dport))
delivered_after-counted n h part Whole =
    with_port-counted n h.dport (option_map (λ p. delivered p h part) (port_at n h.dport)) (delivered-counted h part (port_at n h.dport))

frame_heard-counted : (n : NodeState) (h : FrameHead) (part : List ℕ) (t : Took) → NodeCounted n (frame_heard n h part t).1
frame_heard-counted n h part t =
    let m : NodeState = with_lane n (frame_lane h) (lane_after (lane_at n (frame_lane h)) t (message_of h part)) in
    node-after n m (frame_heard n h part t).1 (node-same n m refl) (delivered_after-counted m h part t)

all_finished-counted : (n : NodeState) (ts : List Ticket) → NodeCounted n (all_finished n ts)
all_finished-counted n [] = node-same n n refl
all_finished-counted n (t ∷ ts) =
    let p : Option PortState = option_map (λ p. finished p t.token) (port_at n t.port) in
    node-after n (with_port n t.port p) (all_finished n (t ∷ ts)) (with_port-counted n t.port p (finished-counted t.token (port_at n t.port))) (all_finished-counted (with_port n t.port p) ts)

pub hear-counted : (host hosts : ℕ) (n : NodeState) (wire : List ℕ) → NodeCounted n (hear host hosts n wire).1
hear-counted host hosts n wire = by (hearing host hosts n wire)
  where
    by : {r : Arrival × NodeState} → Hearing host hosts n wire r → NodeCounted n r.1
    by (Hearing.stays a) = node-same n n refl
    by (Hearing.probe body number mapper back e d) = node-same n _ refl
    by (Hearing.part body p e d mine) = node-same n _ refl
    by (Hearing.frame body h e d mine from) = frame_heard-counted n h (part_in body) (frame_took n h)
    by (Hearing.ack body a e d mine from) =
        let m : NodeState = with_lane n (ack_lane a) (lane_acknowledged (lane_at n (ack_lane a)) a.next) in
        node-after n m (ack_heard n a) (node-same n m refl) (all_finished-counted m (tickets_finished (lane_at n (ack_lane a)) a.next))

-- and what it sends
pub after_sending-counted : (n : NodeState) (o : Outgoing) → NodeCounted n (after_sending n o)
unfolding after_sending
after_sending-counted n (Probe walk looped) = node-same n _ refl
after_sending-counted n (TablePart part by) = node-same n _ refl
after_sending-counted n (Reply r) = node-same n _ refl
after_sending-counted n (PartAnswer a) = node-same n _ refl
after_sending-counted n (FrameAnswer lane next by) = node-same n _ refl
after_sending-counted n (Fragment lane head part by) = node-same n _ refl

-- Each port of a world was opened with as many tokens, and has the same client.
pub record ArePortsKept (w v : WorldState) : Type 0 where
  pub counted : (h port : ℕ) → counts (port_at (node_at v h) port) ≡ counts (port_at (node_at w h) port)
  pub client : (h port : ℕ) → client_at v h port ≡ client_at w h port

pub kept-same : (w v : WorldState) → v.nodes ≡ w.nodes → v.clients ≡ w.clients → ArePortsKept w v
kept-same w v e f = record {
  counted = λ h port. ap (λ ns. counts (port_at (get_or ns h (new_node 0)) port)) e;
  client = λ h port. ap (λ cs. get_or (get_or cs h []) port None) f;
}

-- where one host changes, and no client
pub one-kept : (w v : WorldState) (i : ℕ) (n : NodeState) → v.nodes ≡ set w.nodes i n → v.clients ≡ w.clients → NodeCounted (node_at w i) n → ArePortsKept w v
one-kept w v i n e f k = record {
  counted = λ h port.
      let moved : NodeCounted (node_at w h) (get_or (set w.nodes i n) h (new_node 0)) = at-set NodeCounted (λ m. node-same m m refl) w.nodes i h n (new_node 0) k in
      let there : NodeCounted (node_at w h) (node_at v h) = subst (λ ns. NodeCounted (node_at w h) (get_or ns h (new_node 0))) (sym e) moved in
      (there.each port).same;
  client = λ h port. ap (λ cs. get_or (get_or cs h []) port None) f;
}

host-ports : {w : WorldState} {e : Event} {x : Effect} {h : ℕ} {m : NodeState} → HostChange w e x h m → m.ports ≡ (node_at w h).ports
host-ports HostChange.asks = refl
host-ports (HostChange.stages a p by d e f) = refl
host-ports (HostChange.expires k) = refl
host-ports (HostChange.gives_up k) = refl
host-ports (HostChange.revokes a d) = refl

-- an event that is a call of a client
abbrev pub is_call : Event → Bool
is_call (Begin h port sends recvs) = true
is_call (Close h port) = true
is_call (Provide h port size prio) = true
is_call (Send h port dest dport prio len seed) = true
is_call (Poll h port) = true
is_call _ = false

no-call : {w : WorldState} {e : Event} {h port : ℕ} {call : Called} → CallChange w e h port call → is_call e ≡ false → ⊥
no-call CallChange.begins other = true≢false other
no-call CallChange.closes other = true≢false other
no-call CallChange.provides other = true≢false other
no-call CallChange.accepts other = true≢false other
no-call CallChange.polls other = true≢false other

change-kept : {w : WorldState} {e : Event} {r : Effect × WorldState} → is_call e ≡ false → Change w e r → ArePortsKept w r.1
change-kept {w = w} other Change.idle = kept-same w w refl refl
change-kept {w = w} other (Change.blocked packet next d e) = kept-same w w refl refl
change-kept {w = w} other (Change.links k) = kept-same w _ refl refl
change-kept {w = w} other (Change.drops packet why d e f) = kept-same w _ refl refl
change-kept {w = w} other (Change.arrives packet h d e f g) = one-kept w _ h (hear h (host_count w) (node_at w h) packet.wire).1 refl refl (hear-counted h (host_count w) (node_at w h) packet.wire)
change-kept {w = w} other (Change.host {h = h} {m = m} k) = one-kept w (with_node w h m) h m refl refl (node-same (node_at w h) m (host-ports k))
change-kept {w = w} other (Change.injects {h = h} c out d e f g o) = one-kept w _ h (after_sending (node_at w h) out) (injection-nodes w h c out) (injection-clients w h c out) (after_sending-counted (node_at w h) out)
change-kept other (Change.calls k) = absurd (no-call k other)

pub event-kept : (w : WorldState) (e : Event) → is_call e ≡ false → ArePortsKept w (step w e).1
event-kept w e other = change-kept other (view w e)

pub kept-along : Along ArePortsKept (λ e. is_call e ≡ false)
kept-along = record {
  same = λ w. kept-same w w refl refl;
  both = λ u v w a b. record { counted = λ h port. b.counted h port ∙ a.counted h port; client = λ h port. b.client h port ∙ a.client h port };
  event = λ w e other. event-kept w e other;
}
