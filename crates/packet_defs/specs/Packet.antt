-- A packet on the wire is route bytes, a type of two bytes, a payload, and the CRC of all before it (packets of
-- ANSI/VITA 26-1998; the codes are this project's own). The head is all bytes before the CRC.
use Rattle.std.specs.Prelude.{ℕ, zero, suc, ◌-◌, ℤ, List, [], ◌∷◌, ◌++◌, map, length, take, slice_index, slice_get}
use Rattle.std.specs.Prelude.{Option, option_and_then}
use Rattle.std.specs.Int.Bits.{bit_xor}
use Rattle.packet_defs.specs.declared.kind.Kind.{Kind}
use Rattle.packet_defs.specs.declared.kind.Kind.TheVariants.{Mapping, Gm}
use Rattle.packet_defs.specs.Crc.{crc, contribution}
use Rattle.packet_defs.specs.RouteByte.{route_byte, turn_of}

-- the type number of a kind
abbrev pub type_of : Kind → ℕ
type_of Mapping = 5
type_of Gm = 8

-- the head of a route, a kind and a payload
abbrev pub head_of : List ℤ → Kind → List ℕ → List ℕ
head_of route kind payload = map route_byte route ++ 0 ∷ type_of kind ∷ payload

-- a head with the CRC that is due to it
abbrev pub with_crc : List ℕ → List ℕ
with_crc head = head ++ crc head ∷ []

-- the packet of a route, a kind and a payload
abbrev pub packet_of : List ℤ → Kind → List ℕ → List ℕ
packet_of route kind payload = with_crc (head_of route kind payload)

-- the head of a packet
abbrev pub head : List ℕ → List ℕ
head wire = take (length wire - 1) wire

-- the CRC that a packet carries
abbrev pub crc_byte : List ℕ → ℕ
crc_byte wire = slice_index wire (length wire - 1)

-- the difference between the CRC that a packet carries and the one that is due to its head
abbrev pub difference : List ℕ → ℕ
difference wire = bit_xor (crc_byte wire) (crc (head wire))

-- the turn that a packet takes next, if its head begins with a route byte
abbrev pub front_turn : List ℕ → Option ℤ
front_turn wire = option_and_then turn_of (slice_get (head wire) 0)

-- A packet without the first byte of its head: a switch takes that byte's contribution out of the CRC, and computes
-- no CRC anew.
abbrev pub stripped : List ℕ → List ℕ
stripped [] = []
stripped (byte ∷ wire) = head wire ++ bit_xor (crc_byte wire) (contribution byte (length wire - 1)) ∷ []

-- a packet that was stripped so many times
abbrev pub stripped_times : ℕ → List ℕ → List ℕ
stripped_times zero wire = wire
stripped_times (suc n) wire = stripped_times n (stripped wire)
