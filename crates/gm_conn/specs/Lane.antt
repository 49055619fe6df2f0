-- What a contract sees of one lane of a host: its connections with a peer, of one priority.
use Rattle.std.specs.Prelude.{◌≡◌, ℕ, ◌<◌, ◌≤◌, ◌-◌, ◌^◌, List, length, map, slice_get, Option, Some, None}
use Rattle.std.specs.Prelude.{option_and_then, if◌then◌else◌}
use Rattle.std.specs.List.{AllByRecursion}
use Rattle.gm_defs.specs.declared.message.Message.{Message}
use Rattle.gm_defs.specs.declared.frame.FrameHead.{FrameHead}
use Rattle.gm_defs.specs.declared.frame.ConnectionKey.{ConnectionKey}
use Rattle.gm_defs.specs.Body.{message_limit}
use Rattle.gm_defs.specs.Fragment.{fragments, piece_count, whole_below, frame_of}
use Rattle.gm_defs.specs.Connection.{IsSender, connection, due, is_spent}
use Rattle.gm_conn.specs.declared.desc.Desc.{Desc}
use Rattle.gm_conn.specs.declared.refusal.OfferRefusal.{OfferRefusal}
use Rattle.gm_conn.specs.declared.refusal.OfferRefusal.TheVariants.{Spent}
use Rattle.gm_conn.specs.Halves.{Outgoing, Incoming, WaitsFor, finished}
use Rattle.world_defs.specs.Lane.{Ticket, LaneState, new_lane}
use Rattle.gm_conn.specs.declared.due.DueFrame.{DueFrame}
use Rattle.gm_conn.specs.declared.envelope.Envelope.{Envelope}

-- A lane of a host has the connection on which it sends, and its state.
pub record HostLane : Type 0 where
  pub key : ConnectionKey
  pub state : LaneState

-- the connection that goes the other way
abbrev pub other_way : ConnectionKey → ConnectionKey
other_way c = connection c.dst c.src c.prio

-- the same lane, in another state
abbrev pub in_state : HostLane → LaneState → HostLane
in_state p s = record p { state = s }

-- a lane on which nothing was sent
abbrev pub unused : ConnectionKey → HostLane
unused key = record { key = key; state = new_lane }

-- the frame of the number that is due
abbrev pub due_frame : HostLane → Option (FrameHead × List ℕ)
due_frame p = option_and_then (λ seq. frame_of p.key p.state.sent seq) (due p.state.sender)

-- the head of a frame
abbrev pub head_of_frame : FrameHead × List ℕ → FrameHead
head_of_frame f = f.0

-- the head of a frame as it is handed out
abbrev pub head_shown : DueFrame → FrameHead
head_shown d = d.head

-- the ticket of the message whose fragment has a number: as many wait before it as messages before that one aren't
-- finished
abbrev pub ticket_of : LaneState → ℕ → Option Ticket
ticket_of l seq = slice_get l.pending (whole_below l.sent seq - whole_below l.sent l.sender.base)

-- The numbers of a lane are in order, and the fragments of what was sent have those up to the next.
pub record AreNumbered (l : LaneState) : Type 0 where
  pub sender : IsSender l.sender
  pub numbered : length (fragments l.sent) ≡ l.sender.next

-- the message of an envelope and its bytes
abbrev pub message_in : Envelope → List ℕ → Message
message_in e body = record { sport = e.sport; dport = e.dport; prio = e.prio; body = body }

-- a message is refused where it needs a number above the greatest
abbrev pub accept_refusal : LaneState → ℕ → Option OfferRefusal
accept_refusal p total = if is_spent p.sender (piece_count total) then Some Spent else None

-- the send that a descriptor is of: the sending port, and the number of its token there
abbrev pub send_of : Desc → Ticket
send_of d = record { port = d.sport; token = d.ticket }

-- the sends of the descriptors that wait
abbrev pub sends_of : Outgoing → List Ticket
sends_of w = map send_of w.waiting

-- What the two halves and the messages keep: the messages' fragments have the numbers up to the next; the descriptors
-- that wait are of the last messages, none of them is finished, and each holds the number of a token; and what comes
-- from the peer goes the other way.
pub record IsLane (w : Outgoing) (r : Incoming) (sent : List Message) : Type 0 where
  pub numbered : length (fragments sent) ≡ w.numbers.next
  pub short : AllByRecursion (λ m. length m.body ≤ message_limit) sent
  pub waits : WaitsFor w sent
  pub unfinished : finished w ≡ 0
  pub tokens : AllByRecursion (λ d. d.ticket < 2 ^ 16) w.waiting
  pub way_back : r.key ≡ other_way w.key
