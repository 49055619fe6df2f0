-- The check byte of a packet (a CRC-8: start value 0, most significant bit first, no reflection, no final exclusive
-- or).
use Rattle.std.specs.Prelude.{ℕ, List, [], ◌∷◌, ◌++◌, replicate}
use Rattle.std.specs.Int.Bits.{bit_xor}
use Rattle.packet_defs.specs.Bits.{bits_of, zeros, remainder}

-- the CRC of bytes: the remainder of their bits followed by eight zero bits
abbrev pub crc : List ℕ → ℕ
crc bytes = remainder (bits_of bytes ++ zeros 8)

-- what a byte adds to the CRC of so many bytes that follow it
abbrev pub contribution : ℕ → ℕ → ℕ
contribution byte places = crc (byte ∷ replicate places 0)

-- the exclusive or of two lists of bytes, as far as both go
abbrev pub xor_bytes : List ℕ → List ℕ → List ℕ
xor_bytes (a ∷ xs) (b ∷ ys) = bit_xor a b ∷ xor_bytes xs ys
xor_bytes _ _ = []
