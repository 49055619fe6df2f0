-- The two halves of a connection, as their contracts see them. Their numbers and their rules are those of `gm_defs`.
use Rattle.std.specs.Prelude.{◌≡◌, ℕ, ◌+◌, ◌-◌, ◌≤◌, Bool, true, ◌&&◌, nat_eq, nat_lt, nat_le, List, [], ◌∷◌, ◌++◌, map}
use Rattle.std.specs.Prelude.{length, replicate, slice_get, take, drop, min, if◌then◌else◌, Option, Some, None}
use Rattle.std.specs.Prelude.{option_map, option_and_then}
use Rattle.std.specs.List.{AllByRecursion}
use Rattle.gm_defs.specs.declared.message.Message.{Message}
use Rattle.gm_defs.specs.declared.frame.Ack.{Ack}
use Rattle.gm_defs.specs.declared.frame.FrameHead.{FrameHead}
use Rattle.gm_defs.specs.declared.frame.ConnectionKey.{ConnectionKey}
use Rattle.gm_defs.specs.Body.{piece, message_limit, is_prio}
use Rattle.gm_defs.specs.Fragment.{fragments, piece_count, whole_below, head_of}
use Rattle.gm_defs.specs.Connection.{SenderState, IsSender, ack_on, due, acknowledged, is_spent, offered}
use Rattle.gm_conn.specs.declared.desc.Desc.{Desc}
use Rattle.gm_conn.specs.declared.desc.Due.{Due}
use Rattle.gm_conn.specs.declared.refusal.OfferRefusal.{OfferRefusal}
use Rattle.gm_conn.specs.declared.refusal.OfferRefusal.TheVariants.{Spent}

-- A sender has its connection, its numbers, the descriptors that were offered and not taken out again, oldest first,
-- and the room that was made for more.
pub record Outgoing : Type 0 where
  pub key : ConnectionKey
  pub numbers : SenderState
  pub waiting : List Desc
  pub spare : ℕ

-- A receiver has its connection, and the count of fragments that it has taken.
pub record Incoming : Type 0 where
  pub key : ConnectionKey
  pub taken : ℕ

-- a sender by its fields
abbrev pub outgoing : ConnectionKey → SenderState → List Desc → ℕ → Outgoing
outgoing key numbers waiting spare = record { key = key; numbers = numbers; waiting = waiting; spare = spare }

-- a descriptor of a message by the rules, of the connection's priority
abbrev pub is_desc : ConnectionKey → Desc → Bool
is_desc c d = nat_lt d.sport 8 && nat_lt d.dport 8 && is_prio d.prio && nat_eq d.prio c.prio
    && nat_le d.total message_limit

-- the message that a descriptor stands for: its bytes are elsewhere, and count as zeros here
abbrev pub message_of : Desc → Message
message_of d = record { sport = d.sport; dport = d.dport; prio = d.prio; body = replicate d.total 0 }

-- the messages of the descriptors that wait
abbrev pub messages : Outgoing → List Message
messages w = map message_of w.waiting

-- the number of the first fragment of the oldest descriptor
abbrev pub first : Outgoing → ℕ
first w = w.numbers.next - length (fragments (messages w))

-- the frame of a number, without its bytes, and the ticket of the descriptor that it is of
abbrev pub due_at : Outgoing → ℕ → Option Due
due_at w n =
    option_and_then
    (λ f. option_map (λ d. record { head = head_of w.key n f; ticket = d.ticket })
    (slice_get w.waiting (whole_below (messages w) (n - first w))))
    (slice_get (fragments (messages w)) (n - first w))

-- the fragment that is due
abbrev pub due_frame : Outgoing → Option Due
due_frame w = option_and_then (λ n. due_at w n) (due w.numbers)

-- how many of the waiting messages are finished: all their fragments are acknowledged
abbrev pub finished : Outgoing → ℕ
finished w = whole_below (messages w) (w.numbers.base - first w)

-- an acknowledgement arrives
abbrev pub heard_ack : Outgoing → ℕ → Outgoing
heard_ack w n = record w { numbers = acknowledged w.numbers n }

-- the oldest descriptor, where its message is finished, and the sender without it
abbrev pub oldest_finished : Outgoing → Option Desc
oldest_finished w = if nat_lt 0 (finished w) then slice_get w.waiting 0 else None

-- the sender without the oldest descriptor, where its message is finished
abbrev pub without_finished : Outgoing → Outgoing
without_finished w = if nat_lt 0 (finished w) then record w { waiting = drop 1 w.waiting; spare = w.spare + 1 } else w

-- a message is offered
abbrev pub with_offer : Outgoing → Desc → Outgoing
with_offer w d = record w {
  numbers = offered w.numbers (piece_count d.total);
  waiting = w.waiting ++ d ∷ [];
  spare = w.spare - 1;
}

-- the head of a message's fragment at an offset
abbrev pub head_for : ConnectionKey → ℕ → Desc → ℕ → FrameHead
head_for c seq d offset = record {
  src = c.src;
  dst = c.dst;
  sport = d.sport;
  dport = d.dport;
  prio = d.prio;
  seq = seq;
  total = d.total;
  offset = offset;
  len = min piece (d.total - offset);
}

-- a message is refused where it needs a number above the greatest
abbrev pub offer_refusal : Outgoing → ℕ → Option OfferRefusal
offer_refusal w total = if is_spent w.numbers (piece_count total) then Some Spent else None

-- What a sender keeps: its numbers are in order, and each message of which not all is acknowledged waits.
pub record IsOutgoing (w : Outgoing) : Type 0 where
  pub sender : IsSender w.numbers
  pub counted : length (fragments (messages w)) ≤ w.numbers.next
  pub waits : first w ≤ w.numbers.base
  pub by_rules : AllByRecursion (λ d. is_desc w.key d ≡ true) w.waiting

-- It keeps so, and keeps the number of the first fragment that waits.
pub record IsOutgoingFrom (from : ℕ) (w : Outgoing) : Type 0 where
  pub kept : IsOutgoing w
  pub begins : from + length (fragments (messages w)) ≡ w.numbers.next

-- how many of the messages that wait lie wholly below a number
abbrev pub place_below : Outgoing → ℕ → ℕ
place_below w n = whole_below (messages w) (n - first w)

-- and the number of the first fragment after them
abbrev pub first_below : Outgoing → ℕ → ℕ
first_below w n = first w + length (fragments (take (place_below w n) (messages w)))

-- how many pieces the message of a place that waits has, where it has no more than so many
abbrev pub whole_at : Outgoing → ℕ → ℕ → Option ℕ
whole_at w place most =
    option_and_then (λ d. if nat_le (piece_count d.total) most then Some (piece_count d.total) else None)
    (slice_get w.waiting place)

-- the acknowledgement that a receiver owes: of the next number, back to the sender
abbrev pub ack_of : Incoming → Ack
ack_of r = ack_on r.key r.taken

-- A descriptor is of a message.
pub record Describes (d : Desc) (m : Message) : Type 0 where
  pub sport : d.sport ≡ m.sport
  pub dport : d.dport ≡ m.dport
  pub prio : d.prio ≡ m.prio
  pub total : d.total ≡ length m.body

-- descriptors are of messages, one by one
abbrev pub AreOf : List Desc → List Message → Type 0
AreOf [] [] = Unit {0}
AreOf [] (m ∷ ms) = ⊥
AreOf (d ∷ ds) [] = ⊥
AreOf (d ∷ ds) (m ∷ ms) = Describes d m × AreOf ds ms

-- the descriptors that wait are of the last messages that were sent
abbrev pub WaitsFor : Outgoing → List Message → Type 0
WaitsFor w sent = AreOf w.waiting (drop (length sent - length w.waiting) sent)
