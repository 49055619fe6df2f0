-- Which bytes are no packet, and which flips are refused.
use Rattle.std.specs.Prelude.{ℕ, ◌+◌, ◌*◌, List, length, nat_eq, nat_lt, if◌then◌else◌, Option, Some, None}
use Rattle.myri_packet.specs.declared.packet.WireFault.{WireFault}
use Rattle.myri_packet.specs.declared.packet.WireFault.TheVariants.{Empty, TooLong}
use Rattle.myri_packet.specs.declared.packet.FlipRefusal.{FlipRefusal}
use Rattle.myri_packet.specs.declared.packet.FlipRefusal.TheVariants.{NoPattern, OutOfPacket}

-- a packet has from 1 to 1,107 bytes
abbrev pub wire_refusal : List ℕ → Option WireFault
wire_refusal bytes = if nat_eq (length bytes) 0 then Some Empty else if nat_lt 1107 (length bytes) then Some TooLong
    else None

-- a flip needs a pattern, and its eight places within the packet
abbrev pub flip_refusal : List ℕ → ℕ → ℕ → Option FlipRefusal
flip_refusal wire bit pattern = if nat_eq pattern 0 then Some NoPattern
    else if nat_lt (bit + 7) (8 * length wire) then None else Some OutOfPacket
