-- What each change of a host leaves of its sends, tickets and messages.
use Rattle.std.proofs.Common.{◌≡◌, ◌≢◌, ◌<◌, ◌≤◌, ◌+◌, ℕ, Bool, true, false, List, [], ◌∷◌, ◌++◌, length, take, drop, max, set, get_or, nat_lt, nat_le, Some, None, option_map, ◌⊎◌, inl, inr, refl, sym, ap, ◌∙◌, arith, if◌then◌else◌}
use Rattle.std.proofs.lemmas.Bool.Decides.{nat_tests}
use Rattle.std.proofs.lemmas.List.{get_or-set_same, get_or-set_other, length-drop, length-take-le, take-append-drop, drop-append-le, drop-drop}
use Rattle.gm_defs.specs.declared.message.Message.{Message}
use Rattle.gm_defs.specs.declared.frame.FrameHead.{FrameHead}
use Rattle.gm_defs.specs.declared.token.Took.{Took}
use Rattle.gm_defs.specs.declared.token.Took.TheVariants.{NotNext, NoToken, Part, Whole}
use Rattle.gm_defs.specs.Fragment.{fragments, whole_below}
use Rattle.gm_defs.specs.Connection.{SenderState, IsSender, is_taken, acknowledged}
use Rattle.gm_defs.specs.Token.{Sending, PortState}
use Rattle.gm_defs.specs.Port.{sent_with, delivered}
use Rattle.gm_defs.proofs.Choices.{both}
use Rattle.gm_defs.proofs.Numbers.{more-below, below-up, below-few}
use Rattle.world_defs.specs.Lane.{LaneState, Ticket, new_lane, with_message, finished_by, lane_acknowledged, tickets_finished, lane_expired, lane_sent_one, lane_answered, lane_after}
use Rattle.world_defs.specs.Node.{NodeState, Outgoing, Probe, TablePart, Reply, PartAnswer, FrameAnswer, Fragment, lane_of, lane_at, with_lane, port_at, with_port, after_sending, with_expired, node_expired}
use Rattle.world_defs.specs.Hearing.{message_of, frame_lane, delivered_after, all_finished}
use Rattle.world_defs.proofs.Hearings.{delivered_after-lanes, all_finished-lanes}
use Rattle.ticket_laws.specs.Host.{send_in, send_under, tickets_of, unfinished_of, AllApart}
use Rattle.ticket_laws.proofs.Matching.{same-or, OneAfter, the_one, another, tickets-long, matched-same, matched-accepted}
use Rattle.ticket_laws.proofs.Sendings.{under, under-joined, under-new}
use Rattle.ticket_laws.proofs.Ports.{delivered-sends, set-sends, SameTickets, lanes-same, lanes-set, HostMatched, host-same, port-there, same-ticket, at, at-here, at-other, all-finished}

-- one lane of a host
pub lane-new : (n m : NodeState) (k : ℕ) (q : LaneState) → m.lanes ≡ set n.lanes k q → k < length n.lanes → lane_at m k ≡ q
lane-new n m k q e low = ap (λ l. get_or l k new_lane) e ∙ get_or-set_same n.lanes k q new_lane low

pub lane-old : (n m : NodeState) (k : ℕ) (q : LaneState) → m.lanes ≡ set n.lanes k q → (j : ℕ) → j ≢ k → lane_at m j ≡ lane_at n j
lane-old n m k q e j other = ap (λ l. get_or l j new_lane) e ∙ get_or-set_other n.lanes k j q new_lane other

-- an acknowledgement raises the first number that isn't acknowledged, to the top at most
pub record IsRaised (s : SenderState) (base : ℕ) : Type 0 where
  pub up : s.base ≤ base
  pub below : base ≤ s.top

pub raised : (s : SenderState) (next : ℕ) → IsSender s → IsRaised s (acknowledged s next).base
raised s next is = by (is_taken s next) refl
  where
    by : (b : Bool) → is_taken s next ≡ b → IsRaised s (if b then record s { base = next; cursor = max s.cursor next } else s).base
    by true e =
        let two = both (nat_lt s.base next) (nat_le next s.top) e in
        let a = two.0 in
        let b = two.1 in
        record { up = grind (arith, nat_tests); below = grind (arith, nat_tests) }
    by false e = let a = is.base_below in let b = is.cursor_below in record { up = omega arith; below = omega (arith, a, b) }

-- a frame leaves the sends and the tickets
pub delivered-same : (n m : NodeState) (h : FrameHead) (part : List ℕ) (t : Took) → m.ports ≡ n.ports → (x : Ticket) → send_under (delivered_after m h part t).ports x ≡ send_under n.ports x
delivered-same n m h part NotNext e x = ap (λ ps. send_in (get_or ps x.port None) x.token) e
delivered-same n m h part NoToken e x = ap (λ ps. send_in (get_or ps x.port None) x.token) e
delivered-same n m h part Part e x =
    set-sends m (delivered_after m h part Part) h.dport (option_map (λ p. delivered p h part) (port_at m h.dport)) refl (delivered-sends h part (port_at m h.dport)) x ∙ ap (λ ps. send_in (get_or ps x.port None) x.token) e
delivered-same n m h part Whole e x =
    set-sends m (delivered_after m h part Whole) h.dport (option_map (λ p. delivered p h part) (port_at m h.dport)) refl (delivered-sends h part (port_at m h.dport)) x ∙ ap (λ ps. send_in (get_or ps x.port None) x.token) e

pub quiet-same : (holds : List ℕ → List ℕ → Type 0) (n m : NodeState) → m.lanes ≡ n.lanes → m.ports ≡ n.ports → HostMatched holds n → HostMatched holds m
quiet-same holds n m e f = host-same holds n m (λ x. ap (λ ps. send_in (get_or ps x.port None) x.token) f) (lanes-same n m e)

-- one lane that keeps its tickets and messages
pub lane-matched : (holds : List ℕ → List ℕ → Type 0) (n : NodeState) (k : ℕ) (q : LaneState) → SameTickets (lane_at n k) q → HostMatched holds n → HostMatched holds (with_lane n k q)
lane-matched holds n k q here = host-same holds n (with_lane n k q) (λ x. refl) (lanes-set n (with_lane n k q) k q refl here)

pub sending-same : (holds : List ℕ → List ℕ → Type 0) (n : NodeState) (out : Outgoing) → HostMatched holds n → HostMatched holds (after_sending n out)
unfolding after_sending
sending-same holds n (Probe walk looped) = quiet-same holds n (record n { staged = None }) refl refl
sending-same holds n (TablePart part by) = quiet-same holds n (record n { staged = None }) refl refl
sending-same holds n (Reply r) = quiet-same holds n (record n { reply = None }) refl refl
sending-same holds n (PartAnswer a) = quiet-same holds n (record n { part_ack = None }) refl refl
sending-same holds n (FrameAnswer lane next by) = lane-matched holds n lane (lane_answered (lane_at n lane)) (record { tickets = refl; messages = refl })
sending-same holds n (Fragment lane head part by) = lane-matched holds n lane (lane_sent_one (lane_at n lane)) (record { tickets = refl; messages = refl })

-- a lane whose fragments are sent again, and both lanes of a peer
lane-expired : (holds : List ℕ → List ℕ → Type 0) (n : NodeState) (lane : ℕ) → HostMatched holds n → HostMatched holds (with_expired n lane)
lane-expired holds n lane = lane-matched holds n lane (lane_expired (lane_at n lane)) (record { tickets = refl; messages = refl })

pub expired-same : (holds : List ℕ → List ℕ → Type 0) (n : NodeState) (peer : ℕ) → HostMatched holds n → HostMatched holds (node_expired n peer)
expired-same holds n peer is = lane-expired holds (with_expired n (lane_of peer 0)) (lane_of peer 1) (lane-expired holds n (lane_of peer 0) is)

-- the lanes of a host that hears of its ports alone
-- a frame is heard
pub frame-matched : (holds : List ℕ → List ℕ → Type 0) (n : NodeState) (h : FrameHead) (part : List ℕ) (t : Took) → HostMatched holds n
    → HostMatched holds (delivered_after (with_lane n (frame_lane h) (lane_after (lane_at n (frame_lane h)) t (message_of h part))) h part t)
frame-matched holds n h part t is =
    let q : LaneState = lane_after (lane_at n (frame_lane h)) t (message_of h part) in
    let v : NodeState = with_lane n (frame_lane h) q in
    host-same holds n (delivered_after v h part t) (delivered-same n v h part t refl) (lanes-set n (delivered_after v h part t) (frame_lane h) q (delivered_after-lanes v h part t) (record { tickets = refl; messages = refl })) is

-- An acknowledgement of a lane finishes as many sends as messages more lie wholly below the first number that isn't acknowledged, and as many tickets wait at least.
pub record IsFinishing (n : NodeState) (k next : ℕ) : Type 0 where
  pub counted : whole_below (lane_at n k).sent (lane_at n k).sender.base + finished_by (lane_at n k) next ≡ whole_below (lane_at n k).sent (acknowledged (lane_at n k).sender next).base
  pub many : length (take (finished_by (lane_at n k) next) (lane_at n k).pending) ≡ finished_by (lane_at n k) next
  pub there : k < length n.lanes

-- how many sends of a lane an acknowledgement finishes, where as many tickets wait as messages aren't finished
pub finishing-as : (n : NodeState) (k next : ℕ) → IsSender (lane_at n k).sender → k < length n.lanes → length (lane_at n k).pending ≡ length (unfinished_of n.lanes k) → IsFinishing n k next
finishing-as n k next sender low as_many = record { counted = counted; many = many; there = low }
  where
    p : LaneState
    p = lane_at n k

    base : ℕ
    base = (acknowledged p.sender next).base

    count : ℕ
    count = finished_by p next

    rise : IsRaised p.sender base
    rise = raised p.sender next sender

    counted : whole_below p.sent p.sender.base + count ≡ whole_below p.sent base
    counted = let up = below-up p.sent p.sender.base base rise.up in omega (arith, up)

    many : length (take count p.pending) ≡ count
    many =
        let fewer = length-drop (whole_below p.sent p.sender.base) p.sent in
        let few = below-few p.sent base in
        let all = counted in
        length-take-le count p.pending (omega (arith, as_many, fewer, few, all))

pub finishing : (holds : List ℕ → List ℕ → Type 0) (n : NodeState) (k next : ℕ) → IsSender (lane_at n k).sender → k < length n.lanes → HostMatched holds n → IsFinishing n k next
finishing holds n k next sender low is = finishing-as n k next sender low (tickets-long holds (send_under n.ports) (lane_at n k).pending (unfinished_of n.lanes k) (is.of_messages k))

-- the tickets and the unfinished messages that it leaves
module _ (n : NodeState) (k next : ℕ) (is : IsFinishing n k next) where
  abbrev pub now_acknowledged : LaneState
  now_acknowledged = lane_acknowledged (lane_at n k) next

  abbrev pub with_acknowledged : NodeState
  with_acknowledged = with_lane n k now_acknowledged

  abbrev pub finished_tickets : List Ticket
  finished_tickets = take (finished_by (lane_at n k) next) (lane_at n k).pending

  abbrev pub left_tickets : List Ticket
  left_tickets = drop (finished_by (lane_at n k) next) (lane_at n k).pending

  acknowledged-lanes : (all_finished with_acknowledged finished_tickets).lanes ≡ set n.lanes k now_acknowledged
  acknowledged-lanes = all_finished-lanes with_acknowledged finished_tickets

  acknowledged-now : lane_at (all_finished with_acknowledged finished_tickets) k ≡ now_acknowledged
  acknowledged-now = lane-new n (all_finished with_acknowledged finished_tickets) k now_acknowledged acknowledged-lanes is.there

  pub tickets-left : (j : ℕ) → tickets_of (all_finished with_acknowledged finished_tickets).lanes j ≡ at k left_tickets (tickets_of n.lanes) j
  tickets-left j = by (same-or j k)
    where
      m : NodeState
      m = all_finished with_acknowledged finished_tickets

      by : (j ≡ k) ⊎ (j ≢ k) → tickets_of m.lanes j ≡ at k left_tickets (tickets_of n.lanes) j
      by (inl same) = ap (tickets_of m.lanes) same ∙ (ap (λ x. x.pending) acknowledged-now ∙ (sym (at-here k left_tickets (tickets_of n.lanes)) ∙ ap (at k left_tickets (tickets_of n.lanes)) (sym same)))
      by (inr other) = ap (λ x. x.pending) (lane-old n m k now_acknowledged acknowledged-lanes j other) ∙ sym (at-other k left_tickets (tickets_of n.lanes) j other)

  pub messages-left : (j : ℕ) → unfinished_of (all_finished with_acknowledged finished_tickets).lanes j ≡ at k (drop (length finished_tickets) (unfinished_of n.lanes k)) (unfinished_of n.lanes) j
  messages-left j = by (same-or j k)
    where
      m : NodeState
      m = all_finished with_acknowledged finished_tickets

      p : LaneState
      p = lane_at n k

      base : ℕ
      base = (acknowledged p.sender next).base

      rest : List Message
      rest = drop (length finished_tickets) (unfinished_of n.lanes k)

      here : unfinished_of m.lanes k ≡ rest
      here =
          let all = is.counted in
          let long = is.many in
          let sum : whole_below p.sent p.sender.base + length finished_tickets ≡ whole_below p.sent base = omega (arith, all, long) in
          ap (λ x. drop (whole_below x.sent x.sender.base) x.sent) acknowledged-now ∙ sym (drop-drop (length finished_tickets) (whole_below p.sent p.sender.base) p.sent ∙ ap (λ i. drop i p.sent) sum)

      by : (j ≡ k) ⊎ (j ≢ k) → unfinished_of m.lanes j ≡ at k rest (unfinished_of n.lanes) j
      by (inl same) = ap (unfinished_of m.lanes) same ∙ (here ∙ (sym (at-here k rest (unfinished_of n.lanes)) ∙ ap (at k rest (unfinished_of n.lanes)) (sym same)))
      by (inr other) = ap (λ x. drop (whole_below x.sent x.sender.base) x.sent) (lane-old n m k now_acknowledged acknowledged-lanes j other) ∙ sym (at-other k rest (unfinished_of n.lanes) j other)

-- an acknowledgement finishes the first sends of its lane
pub acknowledged-matched : (holds : List ℕ → List ℕ → Type 0) (n : NodeState) (k next : ℕ) → IsSender (lane_at n k).sender → k < length n.lanes → AllApart n.ports → HostMatched holds n → HostMatched holds (all_finished (with_lane n k (lane_acknowledged (lane_at n k) next)) (tickets_finished (lane_at n k) next))
acknowledged-matched holds n k next sender low every is =
    let fin = finishing holds n k next sender low is in
    let before : NodeState = with_lane n k (lane_acknowledged (lane_at n k) next) in
    let gone : List Ticket = tickets_finished (lane_at n k) next in
    let left : List Ticket = drop (finished_by (lane_at n k) next) (lane_at n k).pending in
    let m : NodeState = all_finished before gone in
    matched-same holds (send_under m.ports) (send_under m.ports) (at k left (tickets_of n.lanes)) (tickets_of m.lanes) (at k (drop (length gone) (unfinished_of n.lanes k)) (unfinished_of n.lanes)) (unfinished_of m.lanes) (λ x. refl)
    (tickets-left n k next fin) (messages-left n k next fin)
    (all-finished holds before (tickets_of n.lanes) (unfinished_of n.lanes) k gone left (sym (take-append-drop (finished_by (lane_at n k) next) (lane_at n k).pending)) every is)

-- A message is accepted: what its lane, its port and its buffer are before.
pub record CanAccept (holds : List ℕ → List ℕ → Type 0) (n : NodeState) (k port token : ℕ) (m : Message) (buffer : List ℕ) (p : PortState) : Type 0 where
  pub lane_there : k < length n.lanes
  pub sender : IsSender (lane_at n k).sender
  pub numbered : length (fragments (lane_at n k).sent) ≡ (lane_at n k).sender.next
  pub open_there : port_at n port ≡ Some p
  pub free : under token p.queue ≡ None
  pub of_port : port ≡ m.sport
  pub bytes : holds buffer m.body

-- the host once it is accepted
abbrev pub once_accepted : NodeState → ℕ → ℕ → ℕ → Message → List ℕ → PortState → NodeState
once_accepted n k port token m buffer p = with_port (with_lane n k (with_message (lane_at n k) m (record { port = port; token = token }))) port (Some (sent_with p token buffer))

-- what it makes of the sends, the tickets and the messages
module _ (holds : List ℕ → List ℕ → Type 0) (n : NodeState) (k port token : ℕ) (message : Message) (bytes : List ℕ) (p : PortState) (can : CanAccept holds n k port token message bytes p) where
  abbrev pub accepted_ticket : Ticket
  accepted_ticket = record { port = port; token = token }

  abbrev pub accepted_send : Sending
  accepted_send = record { token = token; buffer = bytes }

  abbrev pub accepted_lane : LaneState
  accepted_lane = with_message (lane_at n k) message accepted_ticket

  abbrev pub accepted_host : NodeState
  accepted_host = once_accepted n k port token message bytes p

  accepted-now : lane_at accepted_host k ≡ accepted_lane
  accepted-now = lane-new n accepted_host k accepted_lane refl can.lane_there

  pub accepted-tickets : tickets_of accepted_host.lanes k ≡ tickets_of n.lanes k ++ accepted_ticket ∷ []
  accepted-tickets = ap (λ x. x.pending) accepted-now

  pub accepted-messages : unfinished_of accepted_host.lanes k ≡ unfinished_of n.lanes k ++ message ∷ []
  accepted-messages =
      let long = can.numbered in
      let a = can.sender.base_below in
      let b = can.sender.cursor_below in
      let d = can.sender.top_below in
      let l : LaneState = lane_at n k in
      let same = (more-below l.sent (message ∷ []) l.sender.base (omega (arith, long, a, b, d))).0 in
      ap (λ x. drop (whole_below x.sent x.sender.base) x.sent) accepted-now ∙ ap (λ i. drop i (l.sent ++ message ∷ [])) same
      ∙ drop-append-le (whole_below l.sent l.sender.base) l.sent (message ∷ []) (below-few l.sent l.sender.base)

  pub others-tickets : (j : ℕ) → j ≢ k → tickets_of accepted_host.lanes j ≡ tickets_of n.lanes j
  others-tickets j other = ap (λ x. x.pending) (lane-old n accepted_host k accepted_lane refl j other)

  pub others-messages : (j : ℕ) → j ≢ k → unfinished_of accepted_host.lanes j ≡ unfinished_of n.lanes j
  others-messages j other = ap (λ x. drop (whole_below x.sent x.sender.base) x.sent) (lane-old n accepted_host k accepted_lane refl j other)

  pub accepted-free : send_under n.ports accepted_ticket ≡ None
  accepted-free = ap (λ z. send_in z token) can.open_there ∙ can.free

  pub accepted-sends : (x : Ticket) → OneAfter x accepted_ticket (send_under n.ports x) (send_under accepted_host.ports x) (Some accepted_send)
  accepted-sends x = by (same-or x.port port) (same-or x.token token)
    where
      at_port : port_at accepted_host port ≡ Some (sent_with p token bytes)
      at_port = get_or-set_same n.ports port (Some (sent_with p token bytes)) None (port-there n port p can.open_there)

      after : x.port ≡ port → send_under accepted_host.ports x ≡ under x.token (sent_with p token bytes).queue
      after same = ap (λ j. send_in (port_at accepted_host j) x.token) same ∙ ap (λ z. send_in z x.token) at_port

      was : x.port ≡ port → send_under n.ports x ≡ under x.token p.queue
      was same = ap (λ j. send_in (port_at n j) x.token) same ∙ ap (λ z. send_in z x.token) can.open_there

      by : (x.port ≡ port) ⊎ (x.port ≢ port) → (x.token ≡ token) ⊎ (x.token ≢ token) → OneAfter x accepted_ticket (send_under n.ports x) (send_under accepted_host.ports x) (Some accepted_send)
      by (inl same) (inl too) = the_one (same-ticket x accepted_ticket same too) (after same ∙ (ap (λ u. under u (sent_with p token bytes).queue) too ∙ under-new accepted_send p.queue can.free))
      by (inl same) (inr other) = another (λ d. other (ap (λ z. z.token) d)) (after same ∙ (under-joined accepted_send x.token p.queue other ∙ sym (was same)))
      by (inr other) y = another (λ d. other (ap (λ z. z.port) d)) (ap (λ z. send_in z x.token) (get_or-set_other n.ports port x.port (Some (sent_with p token bytes)) None other))

  pub accept-matched : HostMatched holds n → HostMatched holds accepted_host
  accept-matched is =
      matched-accepted holds (send_under n.ports) (send_under accepted_host.ports) (tickets_of n.lanes) (tickets_of accepted_host.lanes) (unfinished_of n.lanes) (unfinished_of accepted_host.lanes) k accepted_ticket message bytes accepted-tickets accepted-messages others-tickets others-messages
      accepted-free can.of_port can.bytes accepted-sends is
