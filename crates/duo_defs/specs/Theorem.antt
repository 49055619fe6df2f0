-- What holds after every list of events.
use Rattle.std.specs.Prelude.{◌≡◌, ℕ, ◌+◌, ◌<◌, ◌≤◌, true, List, [], ◌∷◌, length, slice_get, Some, IsSome, Ok}
use Rattle.std.specs.List.{AllByRecursion}
use Rattle.duo_defs.specs.declared.event.DuoEvent.{DuoEvent}
use Rattle.duo_defs.specs.declared.event.DuoEvent.TheVariants.{Poll}
use Rattle.duo_defs.specs.declared.effect.DuoEffect.TheVariants.{Sent, Unsure}
use Rattle.gm_defs.specs.Token.{PortState, Sent as SentEvent}
use Rattle.gm_defs.specs.Port.{next_event, send_of, finished}
use Rattle.gm_defs.specs.declared.frame.FrameHead.{FrameHead}
use Rattle.gm_defs.specs.declared.frame.Ack.{Ack}
use Rattle.gm_defs.specs.declared.frame.GmBody.TheVariants.{Frame, Ack as Acknowledges}
use Rattle.gm_defs.specs.Body.{piece, decode, part_in, is_head, is_last}
use Rattle.gm_defs.specs.declared.message.Message.{Message}
use Rattle.gm_defs.specs.Connection.{IsSender}
use Rattle.world_defs.specs.Lane.{Ticket, LaneState}
use Rattle.duo_defs.specs.declared.packet.Packet.TheVariants.{Data}
use Rattle.world_defs.specs.Client.{ClientState}
use Rattle.world_defs.specs.Sound.{IsPrefix, HasOwners}
use Rattle.duo_defs.specs.Duo.{Returned, DuoState, plain_message, new_duo, tokens_each, end_at, other, sent, got}
use Rattle.duo_defs.specs.Step.{IsFair, step, after_all}

-- A moment that events lead to from two new ends.
pub record IsReached (d : DuoState) : Type 0 where
  pub inc : ℕ
  pub least : 1 ≤ inc
  pub events : List DuoEvent
  pub fair : AllByRecursion IsFair events
  pub leads : d ≡ after_all (new_duo inc) events

-- what an incarnation of an end has of an incarnation of the other is a prefix of what that one sent it
abbrev pub GotIsPrefixOfSent : Type 0
GotIsPrefixOfSent = (d : DuoState) → IsReached d → (x i j : ℕ) → IsPrefix (got d x i j) (sent d x i j)

-- A port with its client has four tokens of each kind, each in one place.
pub record HasFour (p : PortState) (c : ClientState) : Type 0 where
  pub sends : p.sends ≡ tokens_each
  pub recvs : p.recvs ≡ tokens_each
  pub owners : HasOwners p c

-- each token of the living incarnations has one owner
abbrev pub TokensHaveOneOwner : Type 0
TokensHaveOneOwner = (d : DuoState) → IsReached d → (x : ℕ) → HasFour (end_at d x).port (end_at d x).client

-- What a poll hands out that answers with a send's token: the first of the sends that are in events is of it, and the
-- event's buffer has the bytes of its message, which the end's incarnation sent to one of the peer.
pub record IsOfMessage (d : DuoState) (x t : ℕ) (note : Returned) (buffer : List ℕ) : Type 0 where
  pub event : next_event (end_at d x).port ≡ Some (SentEvent t buffer)
  pub first : slice_get (end_at d x).returned 0 ≡ Some note
  pub token : note.token ≡ t
  pub counted : 0 < note.known
  pub was_sent : slice_get (sent d x (end_at d x).present.inc note.known) note.place ≡ Some (plain_message buffer)

-- An answer of sent: the peer's incarnation to which the message is counted has got it.
pub record IsSentRight (d : DuoState) (x t : ℕ) : Type 0 where
  pub note : Returned
  pub buffer : List ℕ
  pub of_message : IsOfMessage d x t note buffer
  pub was_got : slice_get (got d x (end_at d x).present.inc note.known) note.place ≡ Some (plain_message buffer)

-- An answer of unsure: the peer's incarnation is above the one to which the message is counted.
pub record IsUnsureRight (d : DuoState) (x t : ℕ) : Type 0 where
  pub note : Returned
  pub buffer : List ℕ
  pub of_message : IsOfMessage d x t note buffer
  pub above : note.known < (end_at d (other x)).present.inc

-- so it is at every poll
abbrev pub PollsAreRight : Type 0
PollsAreRight =
    (d : DuoState) → IsReached d → (x t : ℕ)
    → ((step d (Poll x)).0 ≡ Sent t → IsSentRight d x t) × ((step d (Poll x)).0 ≡ Unsure t → IsUnsureRight d x t)

-- the kept lists only grow, at their ends
abbrev pub ListsOnlyGrow : Type 0
ListsOnlyGrow =
    (d : DuoState) (e : DuoEvent) → IsReached d → IsFair e → (x i j : ℕ) → 0 < j → 0 < i
    → IsPrefix (sent d x i j) (sent (step d e).1 x i j) × IsPrefix (got d x i j) (got (step d e).1 x i j)

-- A body of the medium: a frame by the rules that carries a whole message, or an acknowledgement.
pub data IsReadable (body : List ℕ) : Type 0 where
  frame : (h : FrameHead) → decode body ≡ Ok (Frame h) → is_head h ≡ true → is_last h.total h.offset ≡ true
      → length (part_in body) ≡ h.len → IsReadable body
  acknowledgement : (a : Ack) → decode body ≡ Ok (Acknowledges a) → IsReadable body

-- so is each body in the medium
abbrev pub MediumIsReadable : Type 0
MediumIsReadable = (d : DuoState) → IsReached d → (k src i j : ℕ) (body : List ℕ)
    → slice_get d.medium k ≡ Some (Data src i j body) → IsReadable body

-- sends stand in a port's queue, so that they can be finished one after another
abbrev pub AreWaiting : PortState → List Ticket → Type 0
AreWaiting p [] = Unit {0}
AreWaiting p (t ∷ ts) = IsSome (send_of p t.token) × AreWaiting (finished p t.token) ts

-- A message of two ends: of one fragment, between ports 0, of priority 0.
pub record IsShort (m : Message) : Type 0 where
  pub sport : m.sport ≡ 0
  pub dport : m.dport ≡ 0
  pub prio : m.prio ≡ 0
  pub short : length m.body ≤ piece

-- The sends that wait at an end are those of the messages that aren't acknowledged, and stand in the port's queue. The
-- number of a message is its place.
pub record IsWaiting (p : PortState) (l : LaneState) : Type 0 where
  pub queued : AreWaiting p l.pending
  pub sender : IsSender l.sender
  pub numbered : l.sender.next ≡ length l.sent
  pub unfinished : l.sender.base + length l.pending ≡ l.sender.next
  pub short : AllByRecursion IsShort l.sent

-- so it is at each end
abbrev pub SendsAreWaiting : Type 0
SendsAreWaiting = (d : DuoState) → IsReached d → (x : ℕ) → IsWaiting (end_at d x).port (end_at d x).present.lane
