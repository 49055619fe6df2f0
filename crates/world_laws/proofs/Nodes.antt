-- What an event that is no client's call leaves of a host: its lanes and its ports, open as they were, and its senders' numbers in order.
use Rattle.std.proofs.Common.{◌≡◌, ◌≤◌, ◌<◌, ◌+◌, ℕ, Bool, true, false, ◌&&◌, List, [], ◌∷◌, length, max, nat_lt, Option, Some, None, is_some, option_map, refl, ◌∙◌, subst, arith, if◌then◌else◌, ℤ}
use Rattle.std.specs.Prelude.{option_and_then}
use Rattle.std.proofs.Math.ListN.{length-set}
use Rattle.std.proofs.lemmas.Bool.Decides.{nat_tests}
use Rattle.gm_defs.specs.declared.frame.FrameHead.{FrameHead}
use Rattle.gm_defs.specs.declared.frame.Ack.{Ack}
use Rattle.gm_defs.specs.declared.token.Took.{Took}
use Rattle.gm_defs.specs.declared.token.Took.TheVariants.{NotNext as TookNotNext, NoToken as TookNoToken, Part as TookPart, Whole}
use Rattle.gm_defs.specs.Body.{part_in}
use Rattle.gm_defs.specs.Fragment.{frame_of}
use Rattle.gm_defs.specs.Connection.{SenderState, IsSender, window, due, sent_one, is_taken, acknowledged, expired}
use Rattle.gm_defs.specs.Token.{PortState}
use Rattle.gm_defs.specs.Port.{delivered, finished}
use Rattle.world_defs.specs.declared.arrival.Arrival.{Arrival}
use Rattle.world_defs.specs.Table.{TableState}
use Rattle.world_defs.specs.Lane.{LaneState, Ticket, new_lane, lane_acknowledged, lane_expired, lane_sent_one, lane_answered, tickets_finished, lane_after}
use Rattle.world_defs.specs.Node.{NodeState, Staged, StagedReply, StagedAck, StagedProbe, StagedPart, Outgoing, Probe, TablePart, Reply, PartAnswer, FrameAnswer, Fragment, lane_of, sends_on, lane_at, with_lane, lane_route, port_at, with_port, outgoing_staged, owed_on, due_on, either, first_some, lanes_of, to_send, after_sending, given_up, with_expired, node_expired}
use Rattle.world_defs.specs.Hearing.{frame_lane, ack_lane, delivered_after, frame_heard, frame_took, all_finished, ack_heard, hear}
use Rattle.world_defs.proofs.Hearings.{Hearing, hearing}
use Rattle.world_laws.proofs.Lists.{at-set}

-- the numbers of a sender: in order if they were, the base no less, and nothing is offered
pub record SenderKept (s t : SenderState) : Type 0 where
  pub in_order : IsSender s → IsSender t
  pub base : s.base ≤ t.base
  pub next : t.next ≡ s.next

pub sender_same : (s : SenderState) → SenderKept s s
sender_same s = record { in_order = λ is. is; base = omega arith; next = refl }

-- a host
pub record NodeKept (n m : NodeState) : Type 0 where
  pub lanes : length m.lanes ≡ length n.lanes
  pub ports : length m.ports ≡ length n.ports
  pub open_ports : (port : ℕ) → is_some (port_at m port) ≡ is_some (port_at n port)
  pub senders : (lane : ℕ) → SenderKept (lane_at n lane).sender (lane_at m lane).sender

pub node_same : (n : NodeState) → NodeKept n n
node_same n = record { lanes = refl; ports = refl; open_ports = λ port. refl; senders = λ lane. sender_same (lane_at n lane).sender }

sender_after : (s t u : SenderState) → SenderKept s t → SenderKept t u → SenderKept s u
sender_after s t u k m = record {
  in_order = λ is. m.in_order (k.in_order is);
  base = let a = k.base in let b = m.base in omega (arith, a, b);
  next = m.next ∙ k.next;
}

pub node_after : (n m o : NodeState) → NodeKept n m → NodeKept m o → NodeKept n o
node_after n m o k l = record {
  lanes = l.lanes ∙ k.lanes;
  ports = l.ports ∙ k.ports;
  open_ports = λ port. l.open_ports port ∙ k.open_ports port;
  senders = λ lane. sender_after (lane_at n lane).sender (lane_at m lane).sender (lane_at o lane).sender (k.senders lane) (l.senders lane);
}

-- one lane goes on
pub with_lane-kept : (n : NodeState) (lane : ℕ) (p : LaneState) → SenderKept (lane_at n lane).sender p.sender → NodeKept n (with_lane n lane p)
with_lane-kept n lane p k = record {
  lanes = length-set n.lanes lane p;
  ports = refl;
  open_ports = λ port. refl;
  senders = λ j. at-set (λ a b. SenderKept a.sender b.sender) (λ a. sender_same a.sender) n.lanes lane j p new_lane k;
}

-- a port is as open as it was
with_port-kept : (n : NodeState) (port : ℕ) (p : Option PortState) → is_some p ≡ is_some (port_at n port) → NodeKept n (with_port n port p)
with_port-kept n port p e = record {
  lanes = refl;
  ports = length-set n.ports port p;
  open_ports = λ j. at-set (λ a b. is_some b ≡ is_some a) (λ a. refl) n.ports port j p None e;
  senders = λ lane. sender_same (lane_at n lane).sender;
}

option_map-some : {X Y : Type 0} (f : X → Y) (o : Option X) → is_some (option_map f o) ≡ is_some o
option_map-some f None = refl
option_map-some f (Some x) = refl

-- a taken acknowledgement
acknowledged-order : (s : SenderState) (n : ℕ) (b : Bool) → is_taken s n ≡ b → SenderKept s (if b then record s { base = n; cursor = max s.cursor n } else s)
acknowledged-order s n false e = sender_same s
acknowledged-order s n true e =
    let low : s.base < n = grind (arith, nat_tests) in
    let high : n ≤ s.top = grind (arith, nat_tests) in
    record {
      in_order = λ is. record { base_below = omega arith; cursor_below = let a = is.cursor_below in omega (arith, a, high); top_below = is.top_below; in_range = is.in_range };
      base = omega (arith, low);
      next = refl;
    }

acknowledged-kept : (s : SenderState) (n : ℕ) → SenderKept s (acknowledged s n)
acknowledged-kept s n = acknowledged-order s n (is_taken s n) refl

expired-kept : (s : SenderState) → SenderKept s (expired s)
expired-kept s = record {
  in_order = λ is. record { base_below = omega arith; cursor_below = let a = is.base_below in let b = is.cursor_below in omega (arith, a, b); top_below = is.top_below; in_range = is.in_range };
  base = omega arith;
  next = refl;
}

-- the due fragment
due-below : (s : SenderState) (k : ℕ) → due s ≡ Some k → s.cursor < s.next
due-below s k e = by (nat_lt s.cursor s.next) (nat_lt s.cursor (s.base + window)) refl e
  where
    by : (a b : Bool) → nat_lt s.cursor s.next ≡ a → (if a && b then Some s.cursor else None) ≡ Some k → s.cursor < s.next
    by true b t d = grind (arith, nat_tests)
    by false b t d = cc

sent_one-kept : (s : SenderState) → s.cursor < s.next → SenderKept s (sent_one s)
sent_one-kept s low = record {
  in_order = λ is. let a = is.base_below in let b = is.cursor_below in let c = is.top_below in record { base_below = omega (arith, a); cursor_below = omega arith; top_below = omega (arith, c, low); in_range = is.in_range };
  base = omega arith;
  next = refl;
}

-- what a host hears
delivered_after-kept : (n : NodeState) (h : FrameHead) (part : List ℕ) (t : Took) → NodeKept n (delivered_after n h part t)
delivered_after-kept n h part TookNotNext = node_same n
delivered_after-kept n h part TookNoToken = node_same n
delivered_after-kept n h part TookPart =
    with_port-kept n h.dport (option_map (λ p. delivered p h part) (port_at n h.dport)) (option_map-some (λ p. delivered p h part) (port_at n h.dport))
delivered_after-kept n h part Whole =
    with_port-kept n h.dport (option_map (λ p. delivered p h part) (port_at n h.dport)) (option_map-some (λ p. delivered p h part) (port_at n h.dport))

frame_heard-kept : (n : NodeState) (h : FrameHead) (part : List ℕ) (t : Took) → NodeKept n (frame_heard n h part t).1
frame_heard-kept n h part t =
    let p : LaneState = lane_after (lane_at n (frame_lane h)) t (record { sport = h.sport; dport = h.dport; prio = h.prio; body = part }) in
    node_after n (with_lane n (frame_lane h) p) (frame_heard n h part t).1 (with_lane-kept n (frame_lane h) p (sender_same (lane_at n (frame_lane h)).sender)) (delivered_after-kept (with_lane n (frame_lane h) p) h part t)

all_finished-kept : (n : NodeState) (ts : List Ticket) → NodeKept n (all_finished n ts)
all_finished-kept n [] = node_same n
all_finished-kept n (t ∷ ts) =
    let p : Option PortState = option_map (λ p. finished p t.token) (port_at n t.port) in
    node_after n (with_port n t.port p) (all_finished n (t ∷ ts)) (with_port-kept n t.port p (option_map-some (λ p. finished p t.token) (port_at n t.port))) (all_finished-kept (with_port n t.port p) ts)

ack_heard-kept : (n : NodeState) (a : Ack) → NodeKept n (ack_heard n a)
ack_heard-kept n a =
    let m : NodeState = with_lane n (ack_lane a) (lane_acknowledged (lane_at n (ack_lane a)) a.next) in
    node_after n m (ack_heard n a) (with_lane-kept n (ack_lane a) (lane_acknowledged (lane_at n (ack_lane a)) a.next) (acknowledged-kept (lane_at n (ack_lane a)).sender a.next)) (all_finished-kept m (tickets_finished (lane_at n (ack_lane a)) a.next))

pub hear-kept : (host hosts : ℕ) (n : NodeState) (wire : List ℕ) → NodeKept n (hear host hosts n wire).1
hear-kept host hosts n wire = by (hearing host hosts n wire)
  where
    by : {r : Arrival × NodeState} → Hearing host hosts n wire r → NodeKept n r.1
    by (Hearing.stays a) = node_same n
    by (Hearing.probe body number mapper back e d) = record { lanes = refl; ports = refl; open_ports = λ port. refl; senders = λ lane. sender_same (lane_at n lane).sender }
    by (Hearing.part body p e d mine) = record { lanes = refl; ports = refl; open_ports = λ port. refl; senders = λ lane. sender_same (lane_at n lane).sender }
    by (Hearing.frame body h e d mine from) = frame_heard-kept n h (part_in body) (frame_took n h)
    by (Hearing.ack body a e d mine from) = ack_heard-kept n a

-- a fragment that is sent first is due
abbrev IsDue : NodeState → Outgoing → Type 0
IsDue n (Probe walk looped) = Unit {0}
IsDue n (TablePart part by) = Unit {0}
IsDue n (Reply r) = Unit {0}
IsDue n (PartAnswer a) = Unit {0}
IsDue n (FrameAnswer lane next by) = Unit {0}
IsDue n (Fragment lane head part by) = (k : ℕ) × (due (lane_at n lane).sender ≡ Some k)

either-holds : {A : Type 0} (P : A → Type 0) (a b : Option A) → ((x : A) → a ≡ Some x → P x) → ((x : A) → b ≡ Some x → P x) → (x : A) → either a b ≡ Some x → P x
either-holds P (Some y) b f g x e = f x e
either-holds P None b f g x e = g x e

first_some-holds : {A : Type 0} (P : A → Type 0) (f : ℕ → Option A) → ((k : ℕ) (x : A) → f k ≡ Some x → P x) → (ks : List ℕ) (x : A) → first_some f ks ≡ Some x → P x
first_some-holds P f all [] x e = cc
first_some-holds P f all (k ∷ ks) x e = either-holds P (f k) (first_some f ks) (all k) (first_some-holds P f all ks) x e

staged-due : (n : NodeState) (o : Option Staged) (x : Outgoing) → option_map outgoing_staged o ≡ Some x → IsDue n x
staged-due n None x e = cc
staged-due n (Some (StagedProbe walk looped)) x e = let same : Probe walk looped ≡ x = cc in subst (IsDue n) same tt
staged-due n (Some (StagedPart part by)) x e = let same : TablePart part by ≡ x = cc in subst (IsDue n) same tt

reply-due : (n : NodeState) (o : Option StagedReply) (x : Outgoing) → option_map Reply o ≡ Some x → IsDue n x
reply-due n None x e = cc
reply-due n (Some r) x e = let same : Reply r ≡ x = cc in subst (IsDue n) same tt

part_ack-due : (n : NodeState) (o : Option StagedAck) (x : Outgoing) → option_map PartAnswer o ≡ Some x → IsDue n x
part_ack-due n None x e = cc
part_ack-due n (Some a) x e = let same : PartAnswer a ≡ x = cc in subst (IsDue n) same tt

owed_by-due : (n : NodeState) (lane next : ℕ) (b : Bool) (o : Option (List ℤ)) (x : Outgoing) → (if b then option_map (λ by. FrameAnswer lane next by) o else None) ≡ Some x → IsDue n x
owed_by-due n lane next true None x e = cc
owed_by-due n lane next true (Some by) x e = let same : FrameAnswer lane next by ≡ x = cc in subst (IsDue n) same tt
owed_by-due n lane next false o x e = cc

routed-due : (n : NodeState) (lane : ℕ) (f : FrameHead × List ℕ) (o : Option (List ℤ)) (x : Outgoing) (k : ℕ) → due (lane_at n lane).sender ≡ Some k → option_map (λ by. Fragment lane f.0 f.1 by) o ≡ Some x → IsDue n x
routed-due n lane f None x k d e = cc
routed-due n lane f (Some by) x k d e = let same : Fragment lane f.0 f.1 by ≡ x = cc in subst (IsDue n) same (k, d)

framed-due : (n : NodeState) (lane : ℕ) (o : Option (FrameHead × List ℕ)) (x : Outgoing) (k : ℕ) → due (lane_at n lane).sender ≡ Some k → option_and_then (λ f. option_map (λ by. Fragment lane f.0 f.1 by) (lane_route n lane)) o ≡ Some x → IsDue n x
framed-due n lane None x k d e = cc
framed-due n lane (Some f) x k d e = routed-due n lane f (lane_route n lane) x k d e

fragment-due : (host : ℕ) (n : NodeState) (lane : ℕ) (o : Option ℕ) (x : Outgoing) → due (lane_at n lane).sender ≡ o → option_and_then (λ f. option_map (λ by. Fragment lane f.0 f.1 by) (lane_route n lane)) (option_and_then (λ seq. frame_of (sends_on host lane) (lane_at n lane).sent seq) o) ≡ Some x → IsDue n x
fragment-due host n lane None x d e = cc
fragment-due host n lane (Some k) x d e = framed-due n lane (frame_of (sends_on host lane) (lane_at n lane).sent k) x k d e

to_send-due : (host : ℕ) (n : NodeState) (x : Outgoing) → to_send host n ≡ Some x → IsDue n x
unfolding to_send
to_send-due host n x e =
    either-holds (IsDue n) (option_map outgoing_staged n.staged) _ (staged-due n n.staged)
    (either-holds (IsDue n) (option_map Reply n.reply) _ (reply-due n n.reply)
    (either-holds (IsDue n) (option_map PartAnswer n.part_ack) _ (part_ack-due n n.part_ack)
    (either-holds (IsDue n) (first_some (owed_on n) (lanes_of n)) _
    (first_some-holds (IsDue n) (owed_on n) (λ lane. owed_by-due n lane (lane_at n lane).taken (lane_at n lane).owes (lane_route n lane)) (lanes_of n))
    (first_some-holds (IsDue n) (due_on host n) (λ lane y. fragment-due host n lane (due (lane_at n lane).sender) y refl) (lanes_of n)))))
    x e

-- and the host after it
after_sending-kept : (n : NodeState) (o : Outgoing) → IsDue n o → NodeKept n (after_sending n o)
unfolding after_sending
after_sending-kept n (Probe walk looped) d = record { lanes = refl; ports = refl; open_ports = λ port. refl; senders = λ lane. sender_same (lane_at n lane).sender }
after_sending-kept n (TablePart part by) d = record { lanes = refl; ports = refl; open_ports = λ port. refl; senders = λ lane. sender_same (lane_at n lane).sender }
after_sending-kept n (Reply r) d = record { lanes = refl; ports = refl; open_ports = λ port. refl; senders = λ lane. sender_same (lane_at n lane).sender }
after_sending-kept n (PartAnswer a) d = record { lanes = refl; ports = refl; open_ports = λ port. refl; senders = λ lane. sender_same (lane_at n lane).sender }
after_sending-kept n (FrameAnswer lane next by) d = with_lane-kept n lane (lane_answered (lane_at n lane)) (sender_same (lane_at n lane).sender)
after_sending-kept n (Fragment lane head part by) d =
    with_lane-kept n lane (lane_sent_one (lane_at n lane)) (sent_one-kept (lane_at n lane).sender (due-below (lane_at n lane).sender d.0 d.1))

pub sent-kept : (host : ℕ) (n : NodeState) (o : Outgoing) → to_send host n ≡ Some o → NodeKept n (after_sending n o)
sent-kept host n o e = after_sending-kept n o (to_send-due host n o e)

pub given_up-kept : (n : NodeState) → NodeKept n (given_up n)
given_up-kept n = record { lanes = refl; ports = refl; open_ports = λ port. refl; senders = λ lane. sender_same (lane_at n lane).sender }

pub table-kept : (n : NodeState) (t : TableState) → NodeKept n (record n { table = t })
table-kept n t = record { lanes = refl; ports = refl; open_ports = λ port. refl; senders = λ lane. sender_same (lane_at n lane).sender }

pub staged-kept : (n : NodeState) (s : Option Staged) → NodeKept n (record n { staged = s })
staged-kept n s = record { lanes = refl; ports = refl; open_ports = λ port. refl; senders = λ lane. sender_same (lane_at n lane).sender }

with_expired-kept : (n : NodeState) (lane : ℕ) → NodeKept n (with_expired n lane)
with_expired-kept n lane = with_lane-kept n lane (lane_expired (lane_at n lane)) (expired-kept (lane_at n lane).sender)

pub node_expired-kept : (n : NodeState) (peer : ℕ) → NodeKept n (node_expired n peer)
node_expired-kept n peer =
    let m : NodeState = with_expired n (lane_of peer 0) in
    node_after n m (node_expired n peer) (with_expired-kept n (lane_of peer 0)) (with_expired-kept m (lane_of peer 1))
