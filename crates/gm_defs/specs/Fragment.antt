-- Messages in pieces, and what makes a frame or an acknowledgement honest.
use Rattle.std.specs.Prelude.{◌≡◌, ℕ, zero, suc, ◌+◌, ◌-◌, ◌*◌, ◌/◌, ◌≤◌, List, [], ◌∷◌, ◌++◌, length, take, drop, max}
use Rattle.std.specs.Prelude.{nat_le, slice_get, if◌then◌else◌, Option, Some, option_map}
use Rattle.gm_defs.specs.declared.message.Message.{Message}
use Rattle.gm_defs.specs.declared.frame.FrameHead.{FrameHead}
use Rattle.gm_defs.specs.declared.frame.Ack.{Ack}
use Rattle.gm_defs.specs.declared.frame.ConnectionKey.{ConnectionKey}
use Rattle.gm_defs.specs.declared.frame.GmBody.TheVariants.{Frame, Ack as Acknowledges}
use Rattle.gm_defs.specs.Body.{piece}
use Rattle.gm_defs.specs.Connection.{key_of}

-- A piece of a message begins at an offset, and has its bytes.
pub record Fragment : Type 0 where
  pub message : Message
  pub offset : ℕ
  pub part : List ℕ

-- the piece of a message that begins at an offset
abbrev pub fragment_at : Message → ℕ → Fragment
fragment_at m offset = record { message = m; offset = offset; part = take piece (drop offset m.body) }

-- how many pieces a message of this length has: an empty one has one
abbrev pub piece_count : ℕ → ℕ
piece_count total = max 1 ((total + (piece - 1)) / piece)

-- so many pieces of a message, from an offset on
abbrev pub pieces_from : Message → ℕ → ℕ → List Fragment
pieces_from m zero offset = []
pieces_from m (suc k) offset = fragment_at m offset ∷ pieces_from m k (offset + piece)

-- a message in pieces: all but the last are as long as a piece may be
abbrev pub pieces : Message → List Fragment
pieces m = pieces_from m (piece_count (length m.body)) 0

-- the fragments of messages, end to end: a fragment's number is its place
abbrev pub fragments : List Message → List Fragment
fragments [] = []
fragments (m ∷ ms) = pieces m ++ fragments ms

-- how many of these messages lie wholly below a number
abbrev pub whole_below : List Message → ℕ → ℕ
whole_below [] n = 0
whole_below (m ∷ ms) n = if nat_le (piece_count (length m.body)) n
    then 1 + whole_below ms (n - piece_count (length m.body)) else 0

-- the bytes below a number of the message that isn't wholly below it: those of its fragments below the number
abbrev pub begun_below : List Message → ℕ → List ℕ
begun_below [] n = []
begun_below (m ∷ ms) n = if nat_le (piece_count (length m.body)) n
    then begun_below ms (n - piece_count (length m.body)) else take (n * piece) m.body

-- the head of the frame that carries a fragment, by its number, on a connection
abbrev pub head_of : ConnectionKey → ℕ → Fragment → FrameHead
head_of c seq f = record {
  src = c.src;
  dst = c.dst;
  sport = f.message.sport;
  dport = f.message.dport;
  prio = f.message.prio;
  seq = seq;
  total = length f.message.body;
  offset = f.offset;
  len = length f.part;
}

-- the frame of a number, of the messages that were sent on a connection
abbrev pub frame_of : ConnectionKey → List Message → ℕ → Option (FrameHead × List ℕ)
frame_of c sent seq = option_map (λ f. (head_of c seq f, f.part)) (slice_get (fragments sent) seq)

-- a frame is honest where it is the fragment of its number, of the messages that were sent on its connection
abbrev pub IsHonestFrame : (ConnectionKey → List Message) → FrameHead → List ℕ → Type 0
IsHonestFrame sent h part = frame_of (key_of (Frame h)) (sent (key_of (Frame h))) h.seq ≡ Some (h, part)

-- an acknowledgement is honest where it says no more than was taken on its connection
abbrev pub IsHonestAck : (ConnectionKey → ℕ) → Ack → Type 0
IsHonestAck taken a = a.next ≤ taken (key_of (Acknowledges a))

-- the bytes of fragments, end to end
abbrev pub joined : List Fragment → List ℕ
joined [] = []
joined (f ∷ fs) = f.part ++ joined fs
