-- What a host hears moves tokens within its ports, and all that it sends leaves them.
use Rattle.std.proofs.Common.{◌≡◌, ℕ, List, [], ◌∷◌, Option, Some, None, option_map, refl}
use Rattle.gm_defs.specs.declared.frame.FrameHead.{FrameHead}
use Rattle.gm_defs.specs.declared.token.Took.{Took}
use Rattle.gm_defs.specs.declared.token.Took.TheVariants.{NotNext as TookNotNext, NoToken as TookNoToken, Part as TookPart, Whole}
use Rattle.gm_defs.specs.Body.{part_in}
use Rattle.gm_defs.specs.Token.{PortState}
use Rattle.gm_defs.specs.Port.{delivered, finished}
use Rattle.world_defs.specs.declared.arrival.Arrival.{Arrival}
use Rattle.world_defs.specs.Lane.{Ticket, lane_acknowledged, tickets_finished, lane_after}
use Rattle.world_defs.specs.Node.{NodeState, Outgoing, Probe, TablePart, Reply, PartAnswer, FrameAnswer, Fragment, lane_at, with_lane, port_at, with_port, after_sending}
use Rattle.world_defs.specs.Hearing.{message_of, delivered_after, frame_heard, frame_took, all_finished, ack_heard, hear, frame_lane, ack_lane}
use Rattle.world_defs.specs.Client.{ClientState}
use Rattle.world_defs.specs.Sound.{AreOwned}
use Rattle.world_defs.proofs.Hearings.{Hearing, hearing}
use Rattle.world_laws.proofs.Lists.{at-set}
use Rattle.token_moves.proofs.Moves.{owned-finished, owned-delivered}

-- a port whose tokens have their owners still
pub record PortOwned (a b : Option PortState) : Type 0 where
  pub owned : (c : Option ClientState) → AreOwned a c → AreOwned b c

-- and so each port of a host
pub record NodeOwned (n m : NodeState) : Type 0 where
  pub each : (port : ℕ) → PortOwned (port_at n port) (port_at m port)

port-same : (a : Option PortState) → PortOwned a a
port-same a = record { owned = λ c is. is }

-- a host with the same ports
pub node-same : (n m : NodeState) → m.ports ≡ n.ports → NodeOwned n m
node-same n m e = record { each = λ port. record { owned = λ c is. rw e is } }

node-after : (n m o : NodeState) → NodeOwned n m → NodeOwned m o → NodeOwned n o
node-after n m o k l = record { each = λ port. record { owned = λ c is. (l.each port).owned c ((k.each port).owned c is) } }

with_port-owned : (n : NodeState) (port : ℕ) (p : Option PortState) → PortOwned (port_at n port) p → NodeOwned n (with_port n port p)
with_port-owned n port p k = record { each = λ j. at-set PortOwned port-same n.ports port j p None k }

finished-owned : (token : ℕ) (o : Option PortState) → PortOwned o (option_map (λ p. finished p token) o)
finished-owned token None = port-same None
finished-owned token (Some p) = record { owned = by }
  where
    by : (c : Option ClientState) → AreOwned (Some p) c → AreOwned (Some (finished p token)) c
    by None is = is
    by (Some c) is = owned-finished p c token is

delivered-owned : (h : FrameHead) (part : List ℕ) (o : Option PortState) → PortOwned o (option_map (λ p. delivered p h part) o)
delivered-owned h part None = port-same None
delivered-owned h part (Some p) = record { owned = by }
  where
    by : (c : Option ClientState) → AreOwned (Some p) c → AreOwned (Some (delivered p h part)) c
    by None is = is
    by (Some c) is = owned-delivered p c h part is

-- what a host hears
delivered_after-owned : (n : NodeState) (h : FrameHead) (part : List ℕ) (t : Took) → NodeOwned n (delivered_after n h part t)
delivered_after-owned n h part TookNotNext = node-same n n refl
delivered_after-owned n h part TookNoToken = node-same n n refl
delivered_after-owned n h part TookPart =
    with_port-owned n h.dport (option_map (λ p. delivered p h part) (port_at n h.dport)) (delivered-owned h part (port_at n h.dport))
delivered_after-owned n h part Whole =
    with_port-owned n h.dport (option_map (λ p. delivered p h part) (port_at n h.dport)) (delivered-owned h part (port_at n h.dport))

frame_heard-owned : (n : NodeState) (h : FrameHead) (part : List ℕ) (t : Took) → NodeOwned n (frame_heard n h part t).1
frame_heard-owned n h part t =
    let m : NodeState = with_lane n (frame_lane h) (lane_after (lane_at n (frame_lane h)) t (message_of h part)) in
    node-after n m (frame_heard n h part t).1 (node-same n m refl) (delivered_after-owned m h part t)

all_finished-owned : (n : NodeState) (ts : List Ticket) → NodeOwned n (all_finished n ts)
all_finished-owned n [] = node-same n n refl
all_finished-owned n (t ∷ ts) =
    let p : Option PortState = option_map (λ p. finished p t.token) (port_at n t.port) in
    node-after n (with_port n t.port p) (all_finished n (t ∷ ts)) (with_port-owned n t.port p (finished-owned t.token (port_at n t.port))) (all_finished-owned (with_port n t.port p) ts)

pub hear-owned : (host hosts : ℕ) (n : NodeState) (wire : List ℕ) → NodeOwned n (hear host hosts n wire).1
hear-owned host hosts n wire = by (hearing host hosts n wire)
  where
    by : {r : Arrival × NodeState} → Hearing host hosts n wire r → NodeOwned n r.1
    by (Hearing.stays a) = node-same n n refl
    by (Hearing.probe body number mapper back e d) = node-same n _ refl
    by (Hearing.part body p e d mine) = node-same n _ refl
    by (Hearing.frame body h e d mine from) = frame_heard-owned n h (part_in body) (frame_took n h)
    by (Hearing.ack body a e d mine from) =
        let m : NodeState = with_lane n (ack_lane a) (lane_acknowledged (lane_at n (ack_lane a)) a.next) in
        node-after n m (ack_heard n a) (node-same n m refl) (all_finished-owned m (tickets_finished (lane_at n (ack_lane a)) a.next))

-- and what it sends
pub after_sending-owned : (n : NodeState) (o : Outgoing) → NodeOwned n (after_sending n o)
unfolding after_sending
after_sending-owned n (Probe walk looped) = node-same n _ refl
after_sending-owned n (TablePart part by) = node-same n _ refl
after_sending-owned n (Reply r) = node-same n _ refl
after_sending-owned n (PartAnswer a) = node-same n _ refl
after_sending-owned n (FrameAnswer lane next by) = node-same n _ refl
after_sending-owned n (Fragment lane head part by) = node-same n _ refl
