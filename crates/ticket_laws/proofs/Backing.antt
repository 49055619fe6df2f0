-- A host stays backed: what its lanes know of stands in its queues, whatever it does, and also once its lanes forgot all.
use Rattle.std.proofs.Common.{◌≡◌, ◌<◌, ◌+◌, ◌-◌, ℕ, suc, Bool, true, false, ◌&&◌, List, [], ◌∷◌, ◌++◌, length, drop, set, get_or, replicate, nat_eq, Option, Some, None, option_map, if◌then◌else◌, refl, sym, ap, ◌∙◌, subst, arith}
use Rattle.std.specs.Prelude.{slice_get, Result, Ok, Err}
use Rattle.std.proofs.lemmas.Bool.Decides.{Decides-eqb}
use Rattle.std.proofs.lemmas.List.{take-append-drop, drop-drop}
use Rattle.net_defs.specs.Network.{Apart}
use Rattle.gm_defs.specs.declared.message.Message.{Message}
use Rattle.gm_defs.specs.declared.frame.FrameHead.{FrameHead}
use Rattle.gm_defs.specs.declared.frame.Ack.{Ack}
use Rattle.gm_defs.specs.declared.frame.GmBody.{GmBody}
use Rattle.gm_defs.specs.declared.frame.GmBody.TheVariants.{Frame, Ack as Acknowledges}
use Rattle.gm_defs.specs.declared.frame.Malformed.{Malformed as NoBody}
use Rattle.gm_defs.specs.declared.token.Took.{Took}
use Rattle.gm_defs.specs.Body.{part_in}
use Rattle.gm_defs.specs.Fragment.{whole_below}
use Rattle.gm_defs.specs.Connection.{IsSender}
use Rattle.gm_defs.specs.Token.{Sending, PortState, opened}
use Rattle.gm_defs.specs.Port.{sent_with}
use Rattle.world_defs.specs.declared.heard.Heard.{Heard}
use Rattle.world_defs.specs.Lane.{LaneState, Ticket, new_lane, finished_by, lane_acknowledged, tickets_finished, lane_expired, lane_answered, lane_sent_one, lane_after}
use Rattle.world_defs.specs.Node.{NodeState, new_node, lane_count, lane_of, lane_at, with_lane, node_expired, with_expired, due_frame}
use Rattle.world_defs.specs.Hearing.{message_of, is_host, frame_lane, ack_lane, delivered_after, frame_took, all_finished, heard_if, messages_read, hear_body}
use Rattle.world_defs.proofs.Lanes.{lane_of-below}
use Rattle.world_defs.proofs.Lists.{each-replicate}
use Rattle.world_defs.proofs.Hearings.{delivered_after-lanes}
use Rattle.ticket_laws.specs.Tickets.{AreMatched}
use Rattle.ticket_laws.specs.Host.{send_under, tickets_of, unfinished_of, Begins, HasApartSends, AllApart, IsBacked, IsInBuffer}
use Rattle.ticket_laws.proofs.Matching.{OneAfter, the_one, another, tickets-keep, tickets-long, ticket-send, matched-same, matched-finished, matched-accepted}
use Rattle.ticket_laws.proofs.Sendings.{under, tokens, apart-joined}
use Rattle.ticket_laws.proofs.Ports.{ApartStill, SameSends, set-sends, SameTickets, lanes-set, closed-sends, ports-apart, same-ticket, finish, finish-apart, one-finished, at, at-here, at-other, at-again, at-same}
use Rattle.ticket_laws.proofs.Hosts.{delivered-same, finishing-as, tickets-left, messages-left, CanAccept, once_accepted, accepted_ticket, accepted_send, accepted-tickets, accepted-messages, others-tickets, others-messages, accepted-free, accepted-sends}
use Rattle.ticket_laws.proofs.Keeping.{host_of, none-matched, new-ticketed, delivered-apart, finished-apart, from_host}
use Rattle.ticket_laws.proofs.Parts.{part-in-buffer}

-- ---- the sends that lanes know of

-- the queues of ports have the sends that are known
abbrev AreThere : (Ticket → Option Sending) → List (Option PortState) → Type 0
AreThere known ports = (t : Ticket) (s : Sending) → known t ≡ Some s → send_under ports t ≡ Some s

-- another send is known under a ticket, or none
abbrev now_known : Ticket → Option Sending → (Ticket → Option Sending) → Ticket → Option Sending
now_known t new known x = if nat_eq x.port t.port && nat_eq x.token t.token then new else known x

known-after : (t : Ticket) (new : Option Sending) (known : Ticket → Option Sending) (x : Ticket) → OneAfter x t (known x) (now_known t new known x) new
known-after t new known x = by (nat_eq x.port t.port) (nat_eq x.token t.token) refl refl
  where
    by : (a b : Bool) → nat_eq x.port t.port ≡ a → nat_eq x.token t.token ≡ b → OneAfter x t (known x) (now_known t new known x) new
    by true true e d =
        the_one (same-ticket x t ((Decides-eqb x.port t.port).0 e) ((Decides-eqb x.token t.token).0 d)) (λ i. if e i && d i then new else known x)
    by true false e d =
        another (λ s. no (sym ((Decides-eqb x.token t.token).1 (ap (λ y. y.token) s)) ∙ d)) (λ i. if e i && d i then new else known x)
      where
        no : true ≡ false → ⊥
        no f = cc
    by false b e d =
        another (λ s. no (sym ((Decides-eqb x.port t.port).1 (ap (λ y. y.port) s)) ∙ e)) (λ i. if e i && d i then new else known x)
      where
        no : true ≡ false → ⊥
        no f = cc

-- what is known stands in the queues where both change in one place alike
there-after : (K L : Ticket → Option Sending) (before after : List (Option PortState)) (t : Ticket) (new : Option Sending) → AreThere K before → ((x : Ticket) → OneAfter x t (K x) (L x) new)
    → ((x : Ticket) → OneAfter x t (send_under before x) (send_under after x) new) → AreThere L after
there-after K L before after t new is known sends x s e = by (known x) (sends x)
  where
    by : OneAfter x t (K x) (L x) new → OneAfter x t (send_under before x) (send_under after x) new → send_under after x ≡ Some s
    by (the_one same here) (the_one also now) = now ∙ (sym here ∙ e)
    by (the_one same here) (another other now) = absurd (other same)
    by (another other here) (the_one same now) = absurd (other same)
    by (another other here) (another also now) = now ∙ is x s (sym here ∙ e)

-- Some sends are known, stand in queues and are matched.
record AreKnown (holds : List ℕ → List ℕ → Type 0) (ports : List (Option PortState)) (P : ℕ → List Ticket) (U : ℕ → List Message) : Type 0 where
  known : Ticket → Option Sending
  there : AreThere known ports
  matched : AreMatched holds known P U

same-known : (holds : List ℕ → List ℕ → Type 0) (ports : List (Option PortState)) (P Q : ℕ → List Ticket) (U V : ℕ → List Message) → ((k : ℕ) → Q k ≡ P k) → ((k : ℕ) → V k ≡ U k) → AreKnown holds ports P U → AreKnown holds ports Q V
same-known holds ports P Q U V p u is = record {
  known = is.known;
  there = is.there;
  matched = matched-same holds is.known is.known P Q U V (λ x. refl) p u is.matched;
}

-- the first ticket on a lane goes, and its send
first-known : (holds : List ℕ → List ℕ → Type 0) (n : NodeState) (P : ℕ → List Ticket) (U : ℕ → List Message) (k : ℕ) (t : Ticket) (rest : List Ticket) → P k ≡ t ∷ rest → AllApart n.ports → AreKnown holds n.ports P U
    → AreKnown holds (finish n t).ports (at k rest P) (at k (drop 1 (U k)) U)
first-known holds n P U k t rest e apart is =
    let first : slice_get (P k) 0 ≡ Some t = ap (λ l. slice_get l 0) e in
    let send = ticket-send holds is.known (P k) (U k) 0 t (is.matched.of_messages k) first in
    record {
      known = now_known t None is.known;
      there = there-after is.known (now_known t None is.known) n.ports (finish n t).ports t None is.there (known-after t None is.known) (one-finished n t send.0 (is.there t send.0 send.1) apart);
      matched =
          matched-finished holds is.known (now_known t None is.known) P (at k rest P) U (at k (drop 1 (U k)) U) k t rest e (at-here k rest P) (at-here k (drop 1 (U k)) U) (at-other k rest P) (at-other k (drop 1 (U k)) U)
          (known-after t None is.known) is.matched;
    }

-- the first tickets on a lane go, and their sends
all-known : (holds : List ℕ → List ℕ → Type 0) (n : NodeState) (P : ℕ → List Ticket) (U : ℕ → List Message) (k : ℕ) (ts rest : List Ticket) → P k ≡ ts ++ rest → AllApart n.ports → AreKnown holds n.ports P U
    → AreKnown holds (all_finished n ts).ports (at k rest P) (at k (drop (length ts) (U k)) U)
all-known holds n P U k [] rest e apart is = same-known holds n.ports P (at k rest P) U (at k (U k) U) (at-same k rest P (sym e)) (at-same k (U k) U refl) is
all-known holds n P U k (t ∷ ts) rest e apart is =
    let Q : ℕ → List Ticket = at k (ts ++ rest) P in
    let V : ℕ → List Message = at k (drop 1 (U k)) U in
    let one : AreKnown holds (finish n t).ports Q V = first-known holds n P U k t (ts ++ rest) e apart is in
    let more : AreKnown holds (all_finished (finish n t) ts).ports (at k rest Q) (at k (drop (length ts) (V k)) V) = all-known holds (finish n t) Q V k ts rest (at-here k (ts ++ rest) P) (finish-apart n t apart) one in
    let long : 1 + length ts ≡ suc (length ts) = omega arith in
    let drops : drop (length ts) (V k) ≡ drop (suc (length ts)) (U k) =
    ap (drop (length ts)) (at-here k (drop 1 (U k)) U) ∙ (drop-drop (length ts) 1 (U k) ∙ ap (λ j. drop j (U k)) long) in
    same-known holds (all_finished (finish n t) ts).ports (at k rest Q) (at k rest P) (at k (drop (length ts) (V k)) V) (at k (drop (suc (length ts)) (U k)) U) (at-again k rest (ts ++ rest) rest P refl)
    (at-again k (drop (length ts) (V k)) (drop 1 (U k)) (drop (suc (length ts)) (U k)) U drops) more

-- ---- a lane
module _ (holds : List ℕ → List ℕ → Type 0) (ports : List (Option PortState)) (lanes : List LaneState) (is : IsBacked holds ports lanes) where
  of-known : (after : List (Option PortState)) (others : List LaneState) → AreKnown holds after (tickets_of others) (unfinished_of others) → AllApart after → IsBacked holds after others
  of-known after others all apart = record { known = all.known; there = all.there; matched = all.matched; apart = apart }

  as-known : AreKnown holds ports (tickets_of lanes) (unfinished_of lanes)
  as-known = record { known = is.known; there = is.there; matched = is.matched }

  -- lanes that keep their tickets and their unfinished messages
  lanes-backed : (others : List LaneState) → ((k : ℕ) → SameTickets (get_or lanes k new_lane) (get_or others k new_lane)) → IsBacked holds ports others
  lanes-backed others same =
      of-known ports others (same-known holds ports (tickets_of lanes) (tickets_of others) (unfinished_of lanes) (unfinished_of others) (λ k. (same k).tickets) (λ k. (same k).messages) as-known) is.apart

  lane-backed : (k : ℕ) (q : LaneState) → SameTickets (get_or lanes k new_lane) q → IsBacked holds ports (set lanes k q)
  lane-backed k q same = lanes-backed (set lanes k q) (lanes-set (host_of ports lanes) (host_of ports (set lanes k q)) k q refl same)

  pub answered-backed : (k : ℕ) → IsBacked holds ports (set lanes k (lane_answered (get_or lanes k new_lane)))
  answered-backed k = lane-backed k (lane_answered (get_or lanes k new_lane)) (record { tickets = refl; messages = refl })

  pub sent-backed : (k : ℕ) → IsBacked holds ports (set lanes k (lane_sent_one (get_or lanes k new_lane)))
  sent-backed k = lane-backed k (lane_sent_one (get_or lanes k new_lane)) (record { tickets = refl; messages = refl })

  one-expired : (k : ℕ) → IsBacked holds ports (set lanes k (lane_expired (get_or lanes k new_lane)))
  one-expired k = lane-backed k (lane_expired (get_or lanes k new_lane)) (record { tickets = refl; messages = refl })

  -- ---- a port
  port-backed : (port : ℕ) (o : Option PortState) → SameSends (get_or ports port None) o → ApartStill (get_or ports port None) o → IsBacked holds (set ports port o) lanes
  port-backed port o same apart = record {
    known = is.known;
    there = λ t s e. set-sends (host_of ports lanes) (host_of (set ports port o) lanes) port o refl same t ∙ is.there t s e;
    matched = is.matched;
    apart = ports-apart ports port o apart is.apart;
  }

  pub opened-backed : (port sends recvs : ℕ) → get_or ports port None ≡ None → IsBacked holds (set ports port (Some (opened sends recvs))) lanes
  opened-backed port sends recvs e =
      port-backed port (Some (opened sends recvs)) (subst (λ o. SameSends o (Some (opened sends recvs))) (sym e) (record { each = λ t. refl })) (record { still = λ a. tt })

  pub closed-backed : (port : ℕ) (p : PortState) → get_or ports port None ≡ Some p → length p.queue ≡ 0 → IsBacked holds (set ports port None) lanes
  closed-backed port p e none = port-backed port None (subst (λ o. SameSends o None) (sym e) (closed-sends p none)) (record { still = λ a. tt })

  -- a change of a port that leaves its queue
  pub queue-backed : (port : ℕ) (f : PortState → PortState) → ((p : PortState) → (f p).queue ≡ p.queue) → IsBacked holds (set ports port (option_map f (get_or ports port None))) lanes
  queue-backed port f same = port-backed port (option_map f (get_or ports port None)) (sends (get_or ports port None)) (record { still = apart (get_or ports port None) })
    where
      sends : (o : Option PortState) → SameSends o (option_map f o)
      sends None = record { each = λ t. refl }
      sends (Some p) = record { each = λ t. ap (under t) (same p) }

      apart : (o : Option PortState) → HasApartSends o → HasApartSends (option_map f o)
      apart None a = tt
      apart (Some p) a = subst (λ q. Apart (tokens q)) (sym (same p)) a

  -- ---- a message is accepted
  pub accepted-backed : (k port token : ℕ) (m : Message) (buffer : List ℕ) (p : PortState) → CanAccept holds (host_of ports lanes) k port token m buffer p
      → IsBacked holds (once_accepted (host_of ports lanes) k port token m buffer p).ports (once_accepted (host_of ports lanes) k port token m buffer p).lanes
  accepted-backed k port token message buffer p can =
      let n : NodeState = host_of ports lanes in
      let m : NodeState = once_accepted n k port token message buffer p in
      let t : Ticket = accepted_ticket holds n k port token message buffer p can in
      let new : Sending = accepted_send holds n k port token message buffer p can in
      let L : Ticket → Option Sending = now_known t (Some new) is.known in
      record {
        known = L;
        there = there-after is.known L ports m.ports t (Some new) is.there (known-after t (Some new) is.known) (accepted-sends holds n k port token message buffer p can);
        matched =
            matched-accepted holds is.known L (tickets_of lanes) (tickets_of m.lanes) (unfinished_of lanes) (unfinished_of m.lanes) k t message buffer (accepted-tickets holds n k port token message buffer p can)
            (accepted-messages holds n k port token message buffer p can) (others-tickets holds n k port token message buffer p can) (others-messages holds n k port token message buffer p can)
            (unknown t (accepted-free holds n k port token message buffer p can)) can.of_port can.bytes (known-after t (Some new) is.known) is.matched;
        apart = ports-apart ports port (Some (sent_with p token buffer)) (record { still = λ a. apart-joined new p.queue (subst HasApartSends can.open_there a) can.free }) is.apart;
      }
    where
      unknown : (t : Ticket) → send_under ports t ≡ None → is.known t ≡ None
      unknown t free = by (is.known t) refl
        where
          by : (o : Option Sending) → is.known t ≡ o → o ≡ None
          by None e = refl
          by (Some s) e = absurd (none s (sym free ∙ is.there t s e))
            where
              none : (s : Sending) → None ≡ Some s → ⊥
              none s d = cc

-- both lanes of a peer, whose fragments are sent again
pub expired-backed : (holds : List ℕ → List ℕ → Type 0) (ports : List (Option PortState)) (lanes : List LaneState) → IsBacked holds ports lanes → (peer : ℕ) → IsBacked holds ports (node_expired (host_of ports lanes) peer).lanes
expired-backed holds ports lanes is peer =
    one-expired holds ports (with_expired (host_of ports lanes) (lane_of peer 0)).lanes (one-expired holds ports lanes is (lane_of peer 0)) (lane_of peer 1)

-- ---- before anything happened
pub new-backed : (holds : List ℕ → List ℕ → Type 0) (k : ℕ) → IsBacked holds (new_node k).ports (new_node k).lanes
new-backed holds k =
    let new = new-ticketed holds k in
    record { known = send_under (new_node k).ports; there = λ t s e. e; matched = new.matched; apart = new.apart }

-- ---- lanes that forgot what they sent, and a port that ends with all that it holds
pub forgotten-backed : (holds : List ℕ → List ℕ → Type 0) (count : ℕ) (ports : List (Option PortState)) → AllApart ports → IsBacked holds ports (replicate count new_lane)
forgotten-backed holds count ports apart =
    let lane : (j : ℕ) → get_or (replicate count new_lane) j new_lane ≡ new_lane = λ j. each-replicate (λ x. x ≡ new_lane) count j new_lane new_lane refl refl in
    record {
      known = λ t. None;
      there = λ t s e. cc;
      matched =
          matched-same holds (λ (t : Ticket). None) (λ (t : Ticket). None) (λ j. []) (tickets_of (replicate count new_lane)) (λ j. []) (unfinished_of (replicate count new_lane)) (λ x. refl) (λ j. ap (λ p. p.pending) (lane j))
          (λ j. ap (λ p. drop (whole_below p.sent p.sender.base) p.sent) (lane j)) (none-matched holds);
      apart = apart;
    }

pub ended-backed : (holds : List ℕ → List ℕ → Type 0) (count : ℕ) (ports : List (Option PortState)) (port : ℕ) → AllApart ports → IsBacked holds (set ports port None) (replicate count new_lane)
ended-backed holds count ports port apart = forgotten-backed holds count (set ports port None) (ports-apart ports port None (record { still = λ a. tt }) apart)

-- ---- what is heard
module _ (holds : List ℕ → List ℕ → Type 0) (host hosts : ℕ) (n : NodeState) (count : length n.lanes ≡ lane_count hosts) (senders : (k : ℕ) → IsSender (lane_at n k).sender) (is : IsBacked holds n.ports n.lanes) where
  abbrev Backed : NodeState → Type 0
  Backed m = IsBacked holds m.ports m.lanes

  where_heard : (b : Bool) (r : Heard × NodeState) → (b ≡ true → Backed r.1) → Backed (heard_if b n r).1
  where_heard true (heard, after) k = k refl
  where_heard false (heard, after) k = is

  frame-backed : (h : FrameHead) (part : List ℕ) (t : Took) → Backed (delivered_after (with_lane n (frame_lane h) (lane_after (lane_at n (frame_lane h)) t (message_of h part))) h part t)
  frame-backed h part t =
      let q : LaneState = lane_after (lane_at n (frame_lane h)) t (message_of h part) in
      let v : NodeState = with_lane n (frame_lane h) q in
      let m : NodeState = delivered_after v h part t in
      let same = lanes-set n m (frame_lane h) q (delivered_after-lanes v h part t) (record { tickets = refl; messages = refl }) in
      record {
        known = is.known;
        there = λ x s e. delivered-same n v h part t refl x ∙ is.there x s e;
        matched = matched-same holds is.known is.known (tickets_of n.lanes) (tickets_of m.lanes) (unfinished_of n.lanes) (unfinished_of m.lanes) (λ x. refl) (λ k. (same k).tickets) (λ k. (same k).messages) is.matched;
        apart = delivered-apart v h part t is.apart;
      }

  ack-backed : (a : Ack) → a.src < hosts → Backed (all_finished (with_lane n (ack_lane a) (lane_acknowledged (lane_at n (ack_lane a)) a.next)) (tickets_finished (lane_at n (ack_lane a)) a.next))
  ack-backed a low =
      let k : ℕ = ack_lane a in
      let there : k < length n.lanes = subst (λ c. k < c) (sym count) (lane_of-below hosts a.src a.prio low) in
      let as_many = tickets-long holds is.known (lane_at n k).pending (unfinished_of n.lanes k) (is.matched.of_messages k) in
      let fin = finishing-as n k a.next (senders k) there as_many in
      let before : NodeState = with_lane n k (lane_acknowledged (lane_at n k) a.next) in
      let gone : List Ticket = tickets_finished (lane_at n k) a.next in
      let left : List Ticket = drop (finished_by (lane_at n k) a.next) (lane_at n k).pending in
      let m : NodeState = all_finished before gone in
      let all = all-known holds before (tickets_of n.lanes) (unfinished_of n.lanes) k gone left (sym (take-append-drop (finished_by (lane_at n k) a.next) (lane_at n k).pending)) is.apart (as-known holds n.ports n.lanes is) in
      of-known holds n.ports n.lanes is m.ports m.lanes
      (same-known holds m.ports (at k left (tickets_of n.lanes)) (tickets_of m.lanes) (at k (drop (length gone) (unfinished_of n.lanes k)) (unfinished_of n.lanes)) (unfinished_of m.lanes) (tickets-left n k a.next fin)
      (messages-left n k a.next fin) all)
      (finished-apart before gone is.apart)

  pub heard-backed : (body : List ℕ) (b : Result GmBody NoBody) → Backed (hear_body host hosts n (messages_read body b)).1
  heard-backed body (Err e) = is
  heard-backed body (Ok (Frame h)) = where_heard (nat_eq h.dst host && is_host hosts h.src) _ (λ e. frame-backed h (part_in body) (frame_took n h))
  heard-backed body (Ok (Acknowledges a)) = where_heard (nat_eq a.dst host && is_host hosts a.src) _ (λ e. ack-backed a (from_host host hosts a.dst a.src e))

-- ---- what is due
pub backed-buffer : (host : ℕ) (n : NodeState) (lane : ℕ) → IsSender (lane_at n lane).sender → IsBacked Begins n.ports n.lanes → (h : FrameHead) (t : Ticket)
    → option_map (λ (f : FrameHead × List ℕ). f.0) (due_frame host n lane) ≡ Some h
    → slice_get (lane_at n lane).pending (whole_below (lane_at n lane).sent h.seq - whole_below (lane_at n lane).sent (lane_at n lane).sender.base) ≡ Some t → IsInBuffer host n lane h t
backed-buffer host n lane sender is =
    part-in-buffer host n lane sender
    (tickets-keep Begins is.known (send_under n.ports) (tickets_of n.lanes lane) (unfinished_of n.lanes lane) (λ x i s e d. is.there x s d) (is.matched.of_messages lane))
