-- What a packet in memory keeps of its CRC.
use Rattle.std.specs.Prelude.{ℕ, List, [], ◌∷◌, ◌++◌}
use Rattle.std.specs.Int.Bits.{bit_xor}
use Rattle.packet_defs.specs.Crc.{crc}

-- the packet of a head whose CRC has this difference from the one that is due
abbrev pub wire_of : List ℕ → ℕ → List ℕ
wire_of head difference = head ++ bit_xor (crc head) difference ∷ []
