-- Both halves of one connection over a medium that loses, repeats and delays: what was emitted stays there to be
-- delivered at any time, any number of times, or never.
use Rattle.std.specs.Prelude.{◌≡◌, ℕ, ◌≤◌, Bool, true, false, nat_eq, List, [], ◌∷◌, ◌++◌, map, take, slice_get}
use Rattle.std.specs.Prelude.{if◌then◌else◌, Option, Some, None}
use Rattle.std.specs.List.{AllByRecursion}
use Rattle.gm_defs.specs.declared.message.Message.{Message}
use Rattle.gm_defs.specs.declared.frame.FrameHead.{FrameHead}
use Rattle.gm_defs.specs.declared.frame.ConnectionKey.{ConnectionKey}
use Rattle.gm_defs.specs.declared.frame.GmBody.{GmBody}
use Rattle.gm_defs.specs.declared.frame.GmBody.TheVariants.{Frame, Ack as Acknowledges}
use Rattle.gm_defs.specs.declared.token.Took.{Took}
use Rattle.gm_defs.specs.declared.token.Took.TheVariants.{NotNext, NoToken, Part, Whole}
use Rattle.gm_defs.specs.Body.{message_limit, is_prio, is_last}
use Rattle.gm_defs.specs.Fragment.{piece_count, whole_below, frame_of}
use Rattle.gm_defs.specs.Connection.{SenderState, ack_on, starting, due, sent_one, acknowledged, expired}
use Rattle.gm_defs.specs.Connection.{unacknowledged, is_spent, offered, took, taken_after}
use Rattle.gm_conn.specs.declared.desc.Desc.{Desc}
use Rattle.gm_conn.specs.declared.event.PairMsg.{PairMsg}
use Rattle.gm_conn.specs.declared.event.PairEvent.{PairEvent}
use Rattle.gm_conn.specs.declared.event.PairEvent.TheVariants.{Offer, Emit, EmitAck, Deliver, Expire}
use Rattle.gm_conn.specs.Halves.{Outgoing, Incoming, message_of}

-- A pair has its connection, the sender's numbers, the count of fragments that the receiver has taken, all that was
-- ever emitted, the messages that were offered and those that were taken whole.
pub record PairState : Type 0 where
  pub key : ConnectionKey
  pub numbers : SenderState
  pub received : ℕ
  pub packets : List GmBody
  pub offered : List PairMsg
  pub taken : List PairMsg

-- a message between ports 0, with ticket 0 and the connection's priority
abbrev pub desc_of : ConnectionKey → PairMsg → Desc
desc_of c m = record { ticket = 0; sport = 0; dport = 0; prio = c.prio; total = m.total }

-- the messages of a list: their bytes count as zeros
abbrev pub messages_of : ConnectionKey → List PairMsg → List Message
messages_of c ms = map (λ m. message_of (desc_of c m)) ms

-- nothing offered, emitted or taken
abbrev pub new_pair : ConnectionKey → PairState
new_pair key = record { key = key; numbers = starting 0; received = 0; packets = []; offered = []; taken = [] }

-- a message is offered, unless it needs a number above the greatest
abbrev pub offer : PairState → PairMsg → Bool × PairState
offer p m =
    if is_spent p.numbers (piece_count m.total) then (false, p)
    else (true, record p { numbers = offered p.numbers (piece_count m.total); offered = p.offered ++ m ∷ [] })

-- the frame of a number, as a packet
abbrev pub frame_packet : Option (FrameHead × List ℕ) → List GmBody
frame_packet None = []
frame_packet (Some f) = Frame f.0 ∷ []

-- the due frame is emitted, if one is due
abbrev pub emit : PairState → Option ℕ → Bool × PairState
emit p None = (false, p)
emit p (Some n) = (
  true,
  record p {
    numbers = sent_one p.numbers;
    packets = p.packets ++ frame_packet (frame_of p.key (messages_of p.key p.offered) n);
  },
)

-- the acknowledgement of what was taken is emitted
abbrev pub emit_ack : PairState → PairState
emit_ack p = record p { packets = p.packets ++ Acknowledges (ack_on p.key p.received) ∷ [] }

-- the message of a frame, where it was taken whole
abbrev pub whole_message : FrameHead → Took → List PairMsg
whole_message h Whole = record { total = h.total } ∷ []
whole_message h Part = []
whole_message h NoToken = []
whole_message h NotNext = []

-- a frame arrives, and the receiver makes this of it
abbrev pub hear_frame : PairState → FrameHead → Took → PairState
hear_frame p h t = record p { received = taken_after p.received t; taken = p.taken ++ whole_message h t }

-- a packet arrives, if there is one of that place
abbrev pub deliver : PairState → Bool → Option GmBody → Bool × PairState
deliver p fits None = (false, p)
deliver p fits (Some (Frame h)) = (true, hear_frame p h (took p.received h.seq fits (is_last h.total h.offset)))
deliver p fits (Some (Acknowledges a)) = (true, record p { numbers = acknowledged p.numbers a.next })

-- what isn't acknowledged is to be sent again, if anything is unacknowledged
abbrev pub expire : PairState → Bool × PairState
expire p = if nat_eq (unacknowledged p.numbers) 0 then (false, p) else (true, record p { numbers = expired p.numbers })

-- one event: whether it could be done, and the pair after it
abbrev pub step : PairState → PairEvent → Bool × PairState
step p (Offer total) = offer p (record { total = total })
step p Emit = emit p (due p.numbers)
step p EmitAck = (true, emit_ack p)
step p (Deliver packet fits) = deliver p fits (slice_get p.packets packet)
step p Expire = expire p

-- the pair after events
abbrev pub after_all : PairState → List PairEvent → PairState
after_all p [] = p
after_all p (e ∷ es) = after_all (step p e).1 es

-- a message is offered only by the rules
abbrev pub IsFair : PairEvent → Type 0
IsFair (Offer total) = total ≤ message_limit
IsFair Emit = Unit {0}
IsFair EmitAck = Unit {0}
IsFair (Deliver packet fits) = Unit {0}
IsFair Expire = Unit {0}

-- A pair that some list of events leads to.
pub record IsReached (p : PairState) : Type 0 where
  pub key : ConnectionKey
  pub prio : is_prio key.prio ≡ true
  pub events : List PairEvent
  pub fair : AllByRecursion IsFair events
  pub leads : p ≡ after_all (new_pair key) events

-- a pair by its halves and its lists
abbrev pub pair_of : Outgoing → Incoming → List GmBody → List PairMsg → List PairMsg → PairState
pair_of w r packets offered taken =
    record { key = w.key; numbers = w.numbers; received = r.taken; packets = packets; offered = offered; taken = taken }

-- What a pair keeps: all descriptors that were offered wait, both halves are of one connection, and events lead to it.
pub record IsPair (w : Outgoing) (r : Incoming) (packets : List GmBody) (offered taken : List PairMsg) : Type 0 where
  pub waiting : w.waiting ≡ map (desc_of w.key) offered
  pub key : r.key ≡ w.key
  pub reached : IsReached (pair_of w r packets offered taken)

-- A pair in order: its numbers stand as they should, and the messages taken whole are a prefix of those offered:
-- those that lie wholly below the number of fragments taken.
pub record IsInOrder (p : PairState) : Type 0 where
  pub base_below_received : p.numbers.base ≤ p.received
  pub received_below : p.received ≤ p.numbers.top
  pub top_below : p.numbers.top ≤ p.numbers.next
  pub base_below_cursor : p.numbers.base ≤ p.numbers.cursor
  pub cursor_below : p.numbers.cursor ≤ p.numbers.top
  pub prefix : (rest : List PairMsg) × (p.offered ≡ p.taken ++ rest)
  pub whole : p.taken ≡ take (whole_below (messages_of p.key p.offered) p.received) p.offered
