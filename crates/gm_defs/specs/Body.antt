-- The bytes of type 0x0008, version 2: frames and acknowledgements. Numbers stand with the greatest byte first; each
-- body has exactly its bytes.
use Rattle.std.specs.Prelude.{ℕ, ◌-◌, ◌%◌, ◌&&◌, Bool, List, ◌∷◌, ◌++◌, length, take, drop, slice_index, min, nat_eq}
use Rattle.std.specs.Prelude.{nat_lt, nat_le, if◌then◌else◌, Result, Ok, Err}
use Rattle.std.specs.Int.{Width, w16, w32, to_be_bytes, from_be_bytes}
use Rattle.gm_defs.specs.declared.frame.FrameHead.{FrameHead}
use Rattle.gm_defs.specs.declared.frame.Ack.{Ack}
use Rattle.gm_defs.specs.declared.frame.GmBody.{GmBody}
use Rattle.gm_defs.specs.declared.frame.GmBody.TheVariants.{Frame, Ack as Acknowledges}
use Rattle.gm_defs.specs.declared.frame.Malformed.{Malformed}

-- the most bytes of a fragment
abbrev pub piece : ℕ
piece = 1016

-- the most bytes of a message
abbrev pub message_limit : ℕ
message_limit = 65528

-- one more than the greatest number of a fragment
abbrev pub number_limit : ℕ
number_limit = 4294967295

-- one more than the greatest priority
abbrev pub prio_limit : ℕ
prio_limit = 2

-- a priority
abbrev pub is_prio : ℕ → Bool
is_prio prio = nat_lt prio prio_limit

-- the version of both kinds of body
abbrev pub version : ℕ
version = 2

-- the bytes of a frame before those of its fragment
abbrev pub frame_length : ℕ
frame_length = 23

-- the bytes of an acknowledgement
abbrev pub ack_length : ℕ
ack_length = 11

-- what stands in a frame before its fragment's bytes
abbrev pub head_bytes : FrameHead → List ℕ
head_bytes h =
    1 ∷ version ∷ to_be_bytes w16 h.src ++ to_be_bytes w16 h.dst ++ h.sport ∷ h.dport ∷ h.prio
    ∷ to_be_bytes w32 h.seq ++ to_be_bytes w32 h.total ++ to_be_bytes w32 h.offset ++ to_be_bytes w16 h.len

-- a frame: kind 1, the version, sender, receiver, ports, priority, number, total, offset, length, and the fragment's
-- bytes
abbrev pub frame_bytes : FrameHead → List ℕ → List ℕ
frame_bytes h part = head_bytes h ++ part

-- an acknowledgement: kind 2, the version, who acknowledges, to whom, the priority, and the next number
abbrev pub ack_bytes : Ack → List ℕ
ack_bytes a = 2 ∷ version ∷ to_be_bytes w16 a.src ++ to_be_bytes w16 a.dst ++ a.prio ∷ to_be_bytes w32 a.next

-- a fragment begins at a multiple of the piece: at 0 in an empty message, else within it
abbrev pub is_offset : ℕ → ℕ → Bool
is_offset total offset = nat_eq (offset % piece) 0 && (if nat_eq total 0 then nat_eq offset 0 else nat_lt offset total)

-- the fragment that begins at an offset is its message's last: no more than a piece is left from there on
abbrev pub is_last : ℕ → ℕ → Bool
is_last total offset = nat_le (total - offset) piece

-- the rules of a frame's head
abbrev pub is_head : FrameHead → Bool
is_head h =
    nat_lt h.sport 8 && nat_lt h.dport 8 && is_prio h.prio && nat_lt h.seq number_limit && nat_le h.total message_limit
    && is_offset h.total h.offset && nat_eq h.len (min piece (h.total - h.offset))

-- the number that stands at a place
abbrev pub number_at : Width → List ℕ → ℕ → ℕ → ℕ
number_at w body at count = from_be_bytes w (take count (drop at body))

-- the head that stands in a body, whatever its bytes
abbrev pub head_in : List ℕ → FrameHead
head_in body = record {
  src = number_at w16 body 2 2;
  dst = number_at w16 body 4 2;
  sport = slice_index body 6;
  dport = slice_index body 7;
  prio = slice_index body 8;
  seq = number_at w32 body 9 4;
  total = number_at w32 body 13 4;
  offset = number_at w32 body 17 4;
  len = number_at w16 body 21 2;
}

-- the acknowledgement that stands in a body, whatever its bytes
abbrev pub ack_in : List ℕ → Ack
ack_in body = record {
  src = number_at w16 body 2 2;
  dst = number_at w16 body 4 2;
  prio = slice_index body 6;
  next = number_at w32 body 7 4;
}

-- the bytes of a frame's fragment
abbrev pub part_in : List ℕ → List ℕ
part_in body = drop frame_length body

-- the kind and the version in front
abbrev pub begins_with : ℕ → List ℕ → Bool
begins_with kind body = nat_eq (slice_index body 0) kind && nat_eq (slice_index body 1) version

-- a frame: its head is by the rules, and exactly its fragment's bytes follow
abbrev pub is_frame : List ℕ → Bool
is_frame body =
    nat_le frame_length (length body) && begins_with 1 body && is_head (head_in body) && nat_eq
    (length (part_in body)) (head_in body).len

-- an acknowledgement: exactly its bytes, of one of the priorities
abbrev pub is_ack : List ℕ → Bool
is_ack body = nat_eq (length body) ack_length && begins_with 2 body && is_prio (ack_in body).prio

-- what a body says
abbrev pub decode : List ℕ → Result GmBody Malformed
decode body =
    if is_frame body then Ok (Frame (head_in body)) else if is_ack body then Ok (Acknowledges (ack_in body))
    else Err (record {})
