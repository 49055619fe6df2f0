-- A host is ticketed before anything happened, and stays so whatever it hears.
use Rattle.std.proofs.Common.{◌≡◌, ◌<◌, ℕ, Bool, true, false, ◌&&◌, List, [], ◌∷◌, length, drop, nat_eq, nat_lt, Option, Some, None, option_map, refl, sym, ap, subst, arith}
use Rattle.std.specs.Prelude.{Result, Ok, Err}
use Rattle.std.proofs.lemmas.Bool.Decides.{nat_tests}
use Rattle.gm_defs.specs.declared.frame.FrameHead.{FrameHead}
use Rattle.gm_defs.specs.declared.frame.Ack.{Ack}
use Rattle.gm_defs.specs.declared.frame.GmBody.{GmBody}
use Rattle.gm_defs.specs.declared.frame.GmBody.TheVariants.{Frame, Ack as Acknowledges}
use Rattle.gm_defs.specs.declared.frame.Malformed.{Malformed as NoBody}
use Rattle.gm_defs.specs.declared.token.Took.{Took}
use Rattle.gm_defs.specs.declared.token.Took.TheVariants.{NotNext, NoToken, Part, Whole}
use Rattle.gm_defs.specs.Body.{part_in}
use Rattle.gm_defs.specs.Fragment.{whole_below}
use Rattle.gm_defs.specs.Connection.{IsSender}
use Rattle.gm_defs.specs.Token.{PortState}
use Rattle.gm_defs.specs.Port.{finished, delivered}
use Rattle.gm_defs.proofs.Choices.{both}
use Rattle.gm_defs.proofs.Takers.{Delivery, delivery}
use Rattle.world_defs.specs.declared.heard.Heard.{Heard}
use Rattle.world_defs.specs.Lane.{LaneState, Ticket, new_lane, lane_acknowledged, tickets_finished, lane_after}
use Rattle.world_defs.specs.Node.{NodeState, lane_count, lane_at, with_lane, port_at, with_port, port_count, new_node}
use Rattle.world_defs.specs.Hearing.{message_of, is_host, frame_lane, ack_lane, delivered_after, frame_took, all_finished, heard_if, messages_read, hear_body}
use Rattle.world_defs.proofs.Lanes.{lane_of-below}
use Rattle.world_defs.proofs.Lists.{each-replicate}
use Rattle.ticket_laws.specs.Tickets.{AreMatched}
use Rattle.ticket_laws.specs.Host.{send_in, send_under, tickets_of, unfinished_of, HasApartSends, AllApart, IsTicketed}
use Rattle.ticket_laws.proofs.Matching.{matched-same}
use Rattle.ticket_laws.proofs.Ports.{ApartStill, ports-apart, finish-apart, HostMatched}
use Rattle.ticket_laws.proofs.Hosts.{frame-matched, acknowledged-matched}

-- a host of these ports and lanes
abbrev pub host_of : List (Option PortState) → List LaneState → NodeState
host_of ports lanes = record (new_node 0) { ports = ports; lanes = lanes }

-- ---- before anything happened
pub none-matched : (holds : List ℕ → List ℕ → Type 0) → AreMatched holds (λ (t : Ticket). None) (λ k. []) (λ k. [])
none-matched holds = record { of_messages = λ k. tt; one_each = λ t s e. cc }

pub new-matched : (holds : List ℕ → List ℕ → Type 0) (k : ℕ) → HostMatched holds (new_node k)
new-matched holds k =
    let n : NodeState = new_node k in
    let lane : (j : ℕ) → lane_at n j ≡ new_lane = λ j. each-replicate (λ x. x ≡ new_lane) (lane_count k) j new_lane new_lane refl refl in
    let port : (j : ℕ) → port_at n j ≡ None = λ j. each-replicate (λ o. o ≡ None) port_count j None None refl refl in
    matched-same holds (λ (t : Ticket). None) (send_under n.ports) (λ j. []) (tickets_of n.lanes) (λ j. []) (unfinished_of n.lanes) (λ x. ap (λ o. send_in o x.token) (port x.port)) (λ j. ap (λ p. p.pending) (lane j))
    (λ j. ap (λ p. drop (whole_below p.sent p.sender.base) p.sent) (lane j)) (none-matched holds)

pub new-ticketed : (holds : List ℕ → List ℕ → Type 0) (k : ℕ) → IsTicketed holds (new_node k).ports (new_node k).lanes
new-ticketed holds k = record {
  matched = new-matched holds k;
  apart = record { each = λ port. each-replicate HasApartSends port_count port None None tt tt };
}

-- ---- what is heard
delivered-still : (h : FrameHead) (part : List ℕ) (o : Option PortState) → ApartStill o (option_map (λ p. delivered p h part) o)
delivered-still h part None = record { still = λ a. a }
delivered-still h part (Some p) = by (delivery p h part)
  where
    by : {q : PortState} → Delivery p h part q → ApartStill (Some p) (Some q)
    by (Delivery.missed e) = record { still = λ a. a }
    by (Delivery.ends r e d) = record { still = λ a. a }
    by (Delivery.goes_on r e d) = record { still = λ a. a }

pub delivered-apart : (n : NodeState) (h : FrameHead) (part : List ℕ) (t : Took) → AllApart n.ports → AllApart (delivered_after n h part t).ports
delivered-apart n h part NotNext is = is
delivered-apart n h part NoToken is = is
delivered-apart n h part Part is = ports-apart n.ports h.dport (option_map (λ p. delivered p h part) (port_at n h.dport)) (delivered-still h part (port_at n h.dport)) is
delivered-apart n h part Whole is = ports-apart n.ports h.dport (option_map (λ p. delivered p h part) (port_at n h.dport)) (delivered-still h part (port_at n h.dport)) is

pub finished-apart : (n : NodeState) (ts : List Ticket) → AllApart n.ports → AllApart (all_finished n ts).ports
finished-apart n [] is = is
finished-apart n (t ∷ ts) is = finished-apart (with_port n t.port (option_map (λ p. finished p t.token) (port_at n t.port))) ts (finish-apart n t is)

-- what names this host, and a host that sent it, came from one of the hosts
pub from_host : (host hosts dst src : ℕ) → (nat_eq dst host && is_host hosts src) ≡ true → src < hosts
from_host host hosts dst src e = let low = (both (nat_eq dst host) (nat_lt src hosts) e).1 in grind (arith, nat_tests)

module _ (holds : List ℕ → List ℕ → Type 0) (host hosts : ℕ) (n : NodeState) (count : length n.lanes ≡ lane_count hosts) (senders : (k : ℕ) → IsSender (lane_at n k).sender) (is : IsTicketed holds n.ports n.lanes) where
  abbrev Kept : NodeState → Type 0
  Kept m = IsTicketed holds m.ports m.lanes

  where_heard : (b : Bool) (r : Heard × NodeState) → (b ≡ true → Kept r.1) → Kept (heard_if b n r).1
  where_heard true (heard, after) k = k refl
  where_heard false (heard, after) k = is

  frame-kept : (h : FrameHead) (part : List ℕ) (t : Took) → Kept (delivered_after (with_lane n (frame_lane h) (lane_after (lane_at n (frame_lane h)) t (message_of h part))) h part t)
  frame-kept h part t = record { matched = frame-matched holds n h part t is.matched; apart = delivered-apart (with_lane n (frame_lane h) (lane_after (lane_at n (frame_lane h)) t (message_of h part))) h part t is.apart }

  ack-kept : (a : Ack) → a.src < hosts → Kept (all_finished (with_lane n (ack_lane a) (lane_acknowledged (lane_at n (ack_lane a)) a.next)) (tickets_finished (lane_at n (ack_lane a)) a.next))
  ack-kept a low =
      let there : ack_lane a < length n.lanes = subst (λ c. ack_lane a < c) (sym count) (lane_of-below hosts a.src a.prio low) in
      record {
        matched = acknowledged-matched holds n (ack_lane a) a.next (senders (ack_lane a)) there is.apart is.matched;
        apart = finished-apart (with_lane n (ack_lane a) (lane_acknowledged (lane_at n (ack_lane a)) a.next)) (tickets_finished (lane_at n (ack_lane a)) a.next) is.apart;
      }

  pub heard-kept : (body : List ℕ) (b : Result GmBody NoBody) → Kept (hear_body host hosts n (messages_read body b)).1
  heard-kept body (Err e) = is
  heard-kept body (Ok (Frame h)) = where_heard (nat_eq h.dst host && is_host hosts h.src) _ (λ e. frame-kept h (part_in body) (frame_took n h))
  heard-kept body (Ok (Acknowledges a)) = where_heard (nat_eq a.dst host && is_host hosts a.src) _ (λ e. ack-kept a (from_host host hosts a.dst a.src e))
