-- The sends, the tickets and the unfinished messages of one host, by its ports and its lanes.
use Rattle.std.specs.Prelude.{◌≡◌, ◌≤◌, ◌+◌, ℕ, List, length, map, take, drop, slice_index_or, Option, Some, None}
use Rattle.std.specs.Prelude.{IfSome, option_and_then}
use Rattle.net_defs.specs.Network.{Apart}
use Rattle.gm_defs.specs.declared.message.Message.{Message}
use Rattle.gm_defs.specs.declared.frame.FrameHead.{FrameHead}
use Rattle.gm_defs.specs.Fragment.{whole_below}
use Rattle.gm_defs.specs.Token.{Sending, PortState}
use Rattle.gm_defs.specs.Port.{send_of}
use Rattle.world_defs.specs.Lane.{LaneState, Ticket, new_lane}
use Rattle.world_defs.specs.Node.{NodeState, due_frame}
use Rattle.world_defs.specs.Sound.{IsPrefix}
use Rattle.ticket_laws.specs.Tickets.{AreMatched}

-- the send under a token of a port, where it is open
abbrev pub send_in : Option PortState → ℕ → Option Sending
send_in port token = option_and_then (λ p. send_of p token) port

-- the send of a ticket, in the queue of its port where that is open
abbrev pub send_under : List (Option PortState) → Ticket → Option Sending
send_under ports t = send_in (slice_index_or ports t.port None) t.token

-- the tickets that wait on a lane
abbrev pub tickets_of : List LaneState → ℕ → List Ticket
tickets_of lanes lane = (slice_index_or lanes lane new_lane).pending

-- the messages of a lane whose last fragment isn't acknowledged, in order
abbrev pub unfinished_of : List LaneState → ℕ → List Message
unfinished_of lanes lane =
    drop (whole_below (slice_index_or lanes lane new_lane).sent (slice_index_or lanes lane new_lane).sender.base)
    (slice_index_or lanes lane new_lane).sent

-- the sends in the queues of ports are those of the unfinished messages of lanes
abbrev pub AreTicketed : (List ℕ → List ℕ → Type 0) → List (Option PortState) → List LaneState → Type 0
AreTicketed holds ports lanes = AreMatched holds (send_under ports) (tickets_of lanes) (unfinished_of lanes)

-- a buffer begins with a message's bytes
abbrev pub Begins : List ℕ → List ℕ → Type 0
Begins buffer bytes = IsPrefix bytes buffer

-- the queue of a port that is open has each token once
abbrev pub HasApartSends : Option PortState → Type 0
HasApartSends port = IfSome port (λ p. Apart (map (λ s. s.token) p.queue))

-- Each port's queue has each token once.
pub record AllApart (ports : List (Option PortState)) : Type 0 where
  pub each : (port : ℕ) → HasApartSends (slice_index_or ports port None)

-- A host's sends, tickets and unfinished messages are matched, and each of its queues has each token once.
pub record IsTicketed (holds : List ℕ → List ℕ → Type 0) (ports : List (Option PortState))
    (lanes : List LaneState) : Type 0 where
  pub matched : AreTicketed holds ports lanes
  pub apart : AllApart ports

-- Some of a host's sends, those that its lanes know of, are matched with its tickets and unfinished messages, and each
-- of its queues has each token once. The lanes of a host that forgot what they sent know of none.
pub record IsBacked (holds : List ℕ → List ℕ → Type 0) (ports : List (Option PortState))
    (lanes : List LaneState) : Type 0 where
  pub known : Ticket → Option Sending
  pub there : (t : Ticket) (s : Sending) → known t ≡ Some s → send_under ports t ≡ Some s
  pub matched : AreMatched holds known (tickets_of lanes) (unfinished_of lanes)
  pub apart : AllApart ports

-- The frame that is due on a lane has this head, and its bytes stand in the buffer of this ticket's send, from the
-- offset on.
pub record IsInBuffer (host : ℕ) (n : NodeState) (lane : ℕ) (h : FrameHead) (t : Ticket) : Type 0 where
  pub send : Sending
  pub there : send_under n.ports t ≡ Some send
  pub port : t.port ≡ h.sport
  pub inside : h.offset + h.len ≤ length send.buffer
  pub frame : due_frame host n lane ≡ Some (h, take h.len (drop h.offset send.buffer))
  pub long : length (take h.len (drop h.offset send.buffer)) ≡ h.len
