-- What a host hears, and all that it sends, leaves each port tied to its client: a frame is heard only from one of the hosts.
use Rattle.std.proofs.Common.{◌≡◌, ℕ, ◌<◌, Bool, true, false, List, [], ◌∷◌, ◌++◌, length, Option, Some, None, option_map, refl, sym, ◌∙◌, if◌then◌else◌}
use Rattle.std.specs.List.{AllByRecursion}
use Rattle.std.proofs.lemmas.List.{length-set}
use Rattle.gm_defs.specs.declared.frame.FrameHead.{FrameHead}
use Rattle.gm_defs.specs.declared.token.Took.{Took}
use Rattle.gm_defs.specs.declared.token.Took.TheVariants.{NotNext as TookNotNext, NoToken as TookNoToken, Part as TookPart, Whole}
use Rattle.gm_defs.specs.Body.{is_last, part_in}
use Rattle.gm_defs.specs.Token.{Sending, Provided, PortState, PortEvent, Sent, Received, taker}
use Rattle.gm_defs.specs.Port.{send_of, ended_by, ended_with, going_on_with, taken_by, filled, delivered, finished}
use Rattle.world_defs.specs.declared.arrival.Arrival.{Arrival}
use Rattle.world_defs.specs.Lane.{Ticket, lane_acknowledged, tickets_finished, lane_after}
use Rattle.world_defs.specs.Node.{NodeState, Outgoing, Probe, TablePart, Reply, PartAnswer, FrameAnswer, Fragment, lane_at, with_lane, port_at, with_port, after_sending}
use Rattle.world_defs.specs.Hearing.{frame_lane, ack_lane, message_of, delivered_after, frame_heard, frame_took, all_finished, ack_heard, hear}
use Rattle.world_defs.proofs.Hearings.{Hearing, hearing}
use Rattle.world_laws.proofs.Lists.{at-set}
use Rattle.token_moves.proofs.Moves.{owned-finished, owned-delivered}
use Rattle.port_client.specs.Held.{OpenClient}
use Rattle.nic_node.specs.Sending.{once_sent}
use Rattle.client_host.specs.Tied.{IsEventFrom, IsServing, IsTied}

-- a port that is tied to each client still to which it was
pub record PortTied (hosts : ℕ) (a b : Option PortState) : Type 0 where
  pub tied : (host port : ℕ) (c : Option OpenClient) → IsTied host hosts port a c → IsTied host hosts port b c

-- and so each port of a host, which has as many
pub record NodeTied (hosts : ℕ) (n m : NodeState) : Type 0 where
  pub count : length m.ports ≡ length n.ports
  pub each : (port : ℕ) → PortTied hosts (port_at n port) (port_at m port)

port-same : (hosts : ℕ) (a : Option PortState) → PortTied hosts a a
port-same hosts a = record { tied = λ host port c is. is }

-- a host with the same ports
pub node-same : (hosts : ℕ) (n m : NodeState) → m.ports ≡ n.ports → NodeTied hosts n m
node-same hosts n m e = record { count = rw e refl; each = λ k. record { tied = λ host port c is. rw e is } }

node-after : (hosts : ℕ) (n m o : NodeState) → NodeTied hosts n m → NodeTied hosts m o → NodeTied hosts n o
node-after hosts n m o k l = record { count = l.count ∙ k.count; each = λ j. record { tied = λ host port c is. (l.each j).tied host port c ((k.each j).tied host port c is) } }

with_port-tied : (hosts : ℕ) (n : NodeState) (port : ℕ) (p : Option PortState) → PortTied hosts (port_at n port) p → NodeTied hosts n (with_port n port p)
with_port-tied hosts n port p k = record { count = length-set n.ports port p; each = λ j. at-set (PortTied hosts) (port-same hosts) n.ports port j p None k }

-- one event more at the end
all-more : (hosts : ℕ) (es : List PortEvent) (e : PortEvent) → AllByRecursion (IsEventFrom hosts) es → IsEventFrom hosts e → AllByRecursion (IsEventFrom hosts) (es ++ e ∷ [])
all-more hosts [] e all is = (is, tt)
all-more hosts (x ∷ xs) e all is = (all.0, all-more hosts xs e all.1 is)

-- a send is finished
finished-tied : (hosts token : ℕ) (o : Option PortState) → PortTied hosts o (option_map (λ p. finished p token) o)
finished-tied hosts token None = port-same hosts None
finished-tied hosts token (Some p) = record { tied = by }
  where
    ends : (host port : ℕ) (c : OpenClient) (o : Option Sending) → IsServing host hosts port p c → (ended_by p token o).sends ≡ p.sends × (ended_by p token o).recvs ≡ p.recvs × AllByRecursion (IsEventFrom hosts) (ended_by p token o).events
    ends host port c None is = (refl, refl, is.senders)
    ends host port c (Some s) is = (refl, refl, all-more hosts p.events (Sent token s.buffer) is.senders tt)

    by : (host port : ℕ) (c : Option OpenClient) → IsTied host hosts port (Some p) c → IsTied host hosts port (Some (finished p token)) c
    by host port None is = is
    by host port (Some c) is =
        let k = ends host port c (send_of p token) is in
        record {
          own_host = is.own_host;
          own_port = is.own_port;
          minted_sends = is.minted_sends ∙ sym k.0;
          minted_recvs = is.minted_recvs ∙ sym k.1;
          owners = owned-finished p c.held token is.owners;
          senders = k.2;
        }

-- a message of a host is taken
delivered-tied : (hosts : ℕ) (h : FrameHead) (part : List ℕ) (o : Option PortState) → h.src < hosts → PortTied hosts o (option_map (λ p. delivered p h part) o)
delivered-tied hosts h part None among = port-same hosts None
delivered-tied hosts h part (Some p) among = record { tied = by }
  where
    takes-by : (host port : ℕ) (c : OpenClient) (r : Provided) (b : Bool) → IsServing host hosts port p c
        → (if b then ended_with p h part r else going_on_with p h part r).sends ≡ p.sends × (if b then ended_with p h part r else going_on_with p h part r).recvs ≡ p.recvs × AllByRecursion (IsEventFrom hosts) (if b then ended_with p h part r else going_on_with p h part r).events
    takes-by host port c r true is = (refl, refl, all-more hosts p.events (Received r.token (filled r.buffer h.offset part) h.src h.sport h.prio h.total) is.senders among)
    takes-by host port c r false is = (refl, refl, is.senders)

    takes : (host port : ℕ) (c : OpenClient) (o : Option Provided) → IsServing host hosts port p c → (taken_by p h part o).sends ≡ p.sends × (taken_by p h part o).recvs ≡ p.recvs × AllByRecursion (IsEventFrom hosts) (taken_by p h part o).events
    takes host port c None is = (refl, refl, is.senders)
    takes host port c (Some r) is = takes-by host port c r (is_last h.total h.offset) is

    by : (host port : ℕ) (c : Option OpenClient) → IsTied host hosts port (Some p) c → IsTied host hosts port (Some (delivered p h part)) c
    by host port None is = is
    by host port (Some c) is =
        let k = takes host port c (taker p h) is in
        record {
          own_host = is.own_host;
          own_port = is.own_port;
          minted_sends = is.minted_sends ∙ sym k.0;
          minted_recvs = is.minted_recvs ∙ sym k.1;
          owners = owned-delivered p c.held h part is.owners;
          senders = k.2;
        }

-- what a host hears
delivered_after-tied : (hosts : ℕ) (n : NodeState) (h : FrameHead) (part : List ℕ) (t : Took) → h.src < hosts → NodeTied hosts n (delivered_after n h part t)
delivered_after-tied hosts n h part TookNotNext among = node-same hosts n n refl
delivered_after-tied hosts n h part TookNoToken among = node-same hosts n n refl
delivered_after-tied hosts n h part TookPart among =
    with_port-tied hosts n h.dport (option_map (λ p. delivered p h part) (port_at n h.dport)) (delivered-tied hosts h part (port_at n h.dport) among)
delivered_after-tied hosts n h part Whole among =
    with_port-tied hosts n h.dport (option_map (λ p. delivered p h part) (port_at n h.dport)) (delivered-tied hosts h part (port_at n h.dport) among)

frame_heard-tied : (hosts : ℕ) (n : NodeState) (h : FrameHead) (part : List ℕ) (t : Took) → h.src < hosts → NodeTied hosts n (frame_heard n h part t).1
frame_heard-tied hosts n h part t among =
    let m : NodeState = with_lane n (frame_lane h) (lane_after (lane_at n (frame_lane h)) t (message_of h part)) in
    node-after hosts n m (frame_heard n h part t).1 (node-same hosts n m refl) (delivered_after-tied hosts m h part t among)

all_finished-tied : (hosts : ℕ) (n : NodeState) (ts : List Ticket) → NodeTied hosts n (all_finished n ts)
all_finished-tied hosts n [] = node-same hosts n n refl
all_finished-tied hosts n (t ∷ ts) =
    let p : Option PortState = option_map (λ p. finished p t.token) (port_at n t.port) in
    node-after hosts n (with_port n t.port p) (all_finished n (t ∷ ts)) (with_port-tied hosts n t.port p (finished-tied hosts t.token (port_at n t.port))) (all_finished-tied hosts (with_port n t.port p) ts)

pub hear-tied : (host hosts : ℕ) (n : NodeState) (wire : List ℕ) → NodeTied hosts n (hear host hosts n wire).1
hear-tied host hosts n wire = by (hearing host hosts n wire)
  where
    by : {r : Arrival × NodeState} → Hearing host hosts n wire r → NodeTied hosts n r.1
    by (Hearing.stays a) = node-same hosts n n refl
    by (Hearing.probe body number mapper back e d) = node-same hosts n _ refl
    by (Hearing.part body p e d mine) = node-same hosts n _ refl
    by (Hearing.frame body h e d mine from) = frame_heard-tied hosts n h (part_in body) (frame_took n h) from
    by (Hearing.ack body a e d mine from) =
        let m : NodeState = with_lane n (ack_lane a) (lane_acknowledged (lane_at n (ack_lane a)) a.next) in
        node-after hosts n m (ack_heard n a) (node-same hosts n m refl) (all_finished-tied hosts m (tickets_finished (lane_at n (ack_lane a)) a.next))

-- and what it sends
after_sending-tied : (hosts : ℕ) (n : NodeState) (o : Outgoing) → NodeTied hosts n (after_sending n o)
unfolding after_sending
after_sending-tied hosts n (Probe walk looped) = node-same hosts n _ refl
after_sending-tied hosts n (TablePart part by) = node-same hosts n _ refl
after_sending-tied hosts n (Reply r) = node-same hosts n _ refl
after_sending-tied hosts n (PartAnswer a) = node-same hosts n _ refl
after_sending-tied hosts n (FrameAnswer lane next by) = node-same hosts n _ refl
after_sending-tied hosts n (Fragment lane head part by) = node-same hosts n _ refl

pub once_sent-tied : (hosts : ℕ) (n : NodeState) (o : Option Outgoing) → NodeTied hosts n (once_sent n o)
once_sent-tied hosts n None = node-same hosts n n refl
once_sent-tied hosts n (Some out) = after_sending-tied hosts n out
