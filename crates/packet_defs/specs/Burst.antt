-- A burst flips neighbouring bits of a packet on a cable, at most eight.
use Rattle.std.specs.Prelude.{ℕ, ◌+◌, ◌-◌, ◌*◌, ◌/◌, ◌%◌, ◌^◌, Bool, true, false, not, ◌&&◌, nat_lt, List, [], ◌∷◌}
use Rattle.std.specs.Prelude.{◌++◌, length, slice_index, slice_set}
use Rattle.std.specs.Int.Bits.{bit_xor}
use Rattle.packet_defs.specs.Bits.{bits_of_byte, zeros}

-- Bytes whose bit `bit + i` is flipped where bit i of the pattern is 1, both most significant first: the first byte
-- takes what of the pattern falls into it, and the bytes after it take the rest.
abbrev pub flipped : List ℕ → ℕ → ℕ → List ℕ
flipped [] bit pattern = []
flipped (byte ∷ bytes) bit pattern = bit_xor byte (pattern / 2 ^ bit)
    ∷ flipped bytes (bit - 8) (pattern * 2 ^ (8 - bit) % 256)

-- bytes with a mask added to the one at a place, if it is there
abbrev pub masked : List ℕ → ℕ → ℕ → List ℕ
masked bytes place mask = slice_set bytes place (bit_xor (slice_index bytes place) mask)

-- the pattern isn't 0, and its eight places lie within the bytes
abbrev pub may_flip : List ℕ → ℕ → ℕ → Bool
may_flip bytes bit pattern = nat_lt 0 pattern && nat_lt (bit + 7) (8 * length bytes)

-- the exclusive or of two bits
abbrev pub differ : Bool → Bool → Bool
differ true b = not b
differ false b = b

-- the exclusive or of two lists of bits, as far as both go
abbrev pub xor_bits : List Bool → List Bool → List Bool
xor_bits (a ∷ xs) (b ∷ ys) = differ a b ∷ xor_bits xs ys
xor_bits _ _ = []

-- so many bits that hold a pattern from a bit on, among zeros
abbrev pub burst : ℕ → ℕ → ℕ → List Bool
burst n bit pattern = zeros bit ++ bits_of_byte pattern ++ zeros (n - (bit + 8))
