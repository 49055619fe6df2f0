-- What holds of every body, every connection and every message.
use Rattle.std.specs.Prelude.{◌≡◌, ◌↔◌, ℕ, ◌+◌, ◌-◌, ◌<◌, ◌≤◌, ◌^◌, true, false, nat_eq, min, List, [], ◌∷◌, ◌++◌}
use Rattle.std.specs.Prelude.{length, slice_index, slice_get, is_some, Some, None, Ok, ◌⊎◌}
use Rattle.std.specs.List.{AllByRecursion, list_any}
use Rattle.gm_defs.specs.declared.message.Message.{Message}
use Rattle.gm_defs.specs.declared.frame.FrameHead.{FrameHead}
use Rattle.gm_defs.specs.declared.frame.Ack.{Ack}
use Rattle.gm_defs.specs.declared.frame.GmBody.TheVariants.{Frame, Ack as Acknowledges}
use Rattle.gm_defs.specs.Fragment.{Fragment, pieces, fragments, whole_below, begun_below, joined}
use Rattle.gm_defs.specs.Body.{piece, is_prio, is_offset, is_last, is_head, frame_bytes, ack_bytes, part_in, decode}
use Rattle.gm_defs.specs.Body.{number_limit}
use Rattle.gm_defs.specs.Connection.{SenderState, IsSender, starting, due, sent_one, acknowledged, expired, is_spent}
use Rattle.gm_defs.specs.Connection.{offered}
use Rattle.gm_defs.specs.declared.token.Filling.{Filling}
use Rattle.gm_defs.specs.Token.{sizes, room, size_for_length, Provided, PortState, has_begun, fitting, can_take}

-- a frame by the rules is read as what it is
abbrev pub FrameIsRead : Type 0
FrameIsRead =
    (h : FrameHead) (part : List ℕ) → h.src < 2 ^ 16 → h.dst < 2 ^ 16 → is_head h ≡ true → length part ≡ h.len
    → (decode (frame_bytes h part) ≡ Ok (Frame h)) × (part_in (frame_bytes h part) ≡ part)

-- and so is an acknowledgement
abbrev pub AckIsRead : Type 0
AckIsRead =
    (a : Ack) → a.src < 2 ^ 16 → a.dst < 2 ^ 16 → is_prio a.prio ≡ true → a.next < 2 ^ 32
    → decode (ack_bytes a) ≡ Ok (Acknowledges a)

-- each number is a byte
abbrev pub AreBytes : List ℕ → Type 0
AreBytes bytes = (i : ℕ) → slice_index bytes i < 256

-- A body that is read as a frame: it is that head's bytes and then its fragment's, and the head is by the rules.
pub record IsWrittenFrame (body : List ℕ) (h : FrameHead) : Type 0 where
  pub written : body ≡ frame_bytes h (part_in body)
  pub by_rules : is_head h ≡ true
  pub part_length : length (part_in body) ≡ h.len
  pub src_fits : h.src < 2 ^ 16
  pub dst_fits : h.dst < 2 ^ 16

-- what is read as a frame was written so
abbrev pub FrameWasWritten : Type 0
FrameWasWritten = (body : List ℕ) (h : FrameHead) → AreBytes body → decode body ≡ Ok (Frame h) → IsWrittenFrame body h

-- A body that is read as an acknowledgement: it is that acknowledgement's bytes, and its priority is one.
pub record IsWrittenAck (body : List ℕ) (a : Ack) : Type 0 where
  pub written : body ≡ ack_bytes a
  pub by_rules : is_prio a.prio ≡ true
  pub src_fits : a.src < 2 ^ 16
  pub dst_fits : a.dst < 2 ^ 16
  pub next_fits : a.next < 2 ^ 32

-- and what is read as an acknowledgement was
abbrev pub AckWasWritten : Type 0
AckWasWritten = (body : List ℕ) (a : Ack) → AreBytes body → decode body ≡ Ok (Acknowledges a) → IsWrittenAck body a

-- a new connection has its numbers in order
abbrev pub StartingIsSender : Type 0
StartingIsSender = (first : ℕ) → first ≤ number_limit → IsSender (starting first)

-- the numbers stay in order: what is due is one that was offered and lies in the window
abbrev pub SendingStays : Type 0
SendingStays = (s : SenderState) (n : ℕ) → IsSender s → due s ≡ Some n → IsSender (sent_one s)

-- an acknowledgement keeps the numbers in order
abbrev pub AcknowledgingStays : Type 0
AcknowledgingStays = (s : SenderState) (n : ℕ) → IsSender s → IsSender (acknowledged s n)

-- an expiry keeps the numbers in order
abbrev pub ExpiringStays : Type 0
ExpiringStays = (s : SenderState) → IsSender s → IsSender (expired s)

-- an offer keeps the numbers in order
abbrev pub OfferingStays : Type 0
OfferingStays = (s : SenderState) (count : ℕ) → IsSender s → is_spent s count ≡ false → IsSender (offered s count)

-- What makes a size the least that has room for a length.
pub record IsLeastSize (len size : ℕ) : Type 0 where
  pub one_of : list_any (nat_eq size) sizes ≡ true
  pub has_room : len ≤ room size
  pub least : AllByRecursion (λ other. other < size → room other < len) sizes

-- the size for a length is the least with room for it
abbrev pub SizeIsLeast : Type 0
SizeIsLeast = (len size : ℕ) → size_for_length len ≡ Some size → IsLeastSize len size

-- no size has room for more than 65,528 bytes, and every length up to that has one
abbrev pub NoSizeAbove : Type 0
NoSizeAbove = (len : ℕ) → (size_for_length len ≡ None) ↔ (65528 < len)

-- the pieces of a message make it whole
abbrev pub PiecesMakeMessage : Type 0
PiecesMakeMessage = (m : Message) → joined (pieces m) ≡ m.body

-- a message of one piece
abbrev pub ShortIsOnePiece : Type 0
ShortIsOnePiece = (m : Message) → length m.body ≤ piece
    → pieces m ≡ record { message = m; offset = 0; part = m.body } ∷ []

-- What is known of the fragment of a number. Its message is the first that isn't wholly below the number, and what is
-- begun of that message is all that comes before the fragment. The last fragment makes the message whole, and an
-- earlier one is begun with it.
pub record ComesNext (ms : List Message) (n : ℕ) (f : Fragment) : Type 0 where
  pub there : slice_get ms (whole_below ms n) ≡ Some f.message
  pub begins : is_offset (length f.message.body) f.offset ≡ true
  pub before : length (begun_below ms n) ≡ f.offset
  pub long : length f.part ≡ min piece (length f.message.body - f.offset)
  pub last : is_last (length f.message.body) f.offset ≡ true → (whole_below ms (n + 1) ≡ whole_below ms n + 1)
      × ((begun_below ms (n + 1) ≡ []) × (begun_below ms n ++ f.part ≡ f.message.body))
  pub earlier : is_last (length f.message.body) f.offset ≡ false → (whole_below ms (n + 1) ≡ whole_below ms n)
      × (begun_below ms (n + 1) ≡ begun_below ms n ++ f.part)

-- so each fragment comes next to what is whole and begun below its number
abbrev pub NextFragment : Type 0
NextFragment = (ms : List Message) (n : ℕ) (f : Fragment) → slice_get (fragments ms) n ≡ Some f → ComesNext ms n f

-- nothing is whole and nothing begun below the first number
abbrev pub NoneBelowFirst : Type 0
NoneBelowFirst = (ms : List Message) → (whole_below ms 0 ≡ 0) × (begun_below ms 0 ≡ [])

-- further messages change nothing below a number that the fragments before them reach
abbrev pub MoreIsSent : Type 0
MoreIsSent =
    (ms more : List Message) (n : ℕ) → n ≤ length (fragments ms)
    → (whole_below (ms ++ more) n ≡ whole_below ms n) × (begun_below (ms ++ more) n ≡ begun_below ms n)

-- all messages are whole below the number after their last fragment
abbrev pub AllBelowLast : Type 0
AllBelowLast = (ms : List Message) → whole_below ms (length (fragments ms)) ≡ length ms

-- A fragment is a message's first, no token is filling for its host and priority, and one that isn't filling fits.
pub record BeginsThere (p : PortState) (h : FrameHead) : Type 0 where
  pub first : h.offset ≡ 0
  pub not_begun : has_begun p h.src h.prio ≡ false
  pub free : is_some (fitting p h.total h.prio) ≡ true

-- A fragment is a later one, and a token is filling for its host and priority, with a message of its length of which
-- the token holds exactly what comes before the fragment.
pub record GoesOnThere (p : PortState) (h : FrameHead) : Type 0 where
  pub later : 0 < h.offset
  pub place : ℕ
  pub token : Provided
  pub message : Filling
  pub there : slice_get p.provided place ≡ Some token
  pub filling : token.filling ≡ Some message
  pub src : message.src ≡ h.src
  pub prio : token.prio ≡ h.prio
  pub total : message.total ≡ h.total
  pub held : message.held ≡ h.offset

-- a port takes a fragment exactly in these two cases
abbrev pub TakenInTwoCases : Type 0
TakenInTwoCases = (p : PortState) (h : FrameHead) → (can_take p h ≡ true) ↔ (BeginsThere p h ⊎ GoesOnThere p h)
