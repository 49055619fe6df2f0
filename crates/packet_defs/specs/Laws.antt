-- What holds of every packet, CRC and route byte.
use Rattle.std.specs.Prelude.{◌≡◌, ℕ, ◌+◌, ◌-◌, ◌*◌, ◌/◌, ◌%◌, ◌^◌, ◌<◌, ◌≤◌, Bool, ℤ, List, [], ◌∷◌, ◌++◌, length}
use Rattle.std.specs.Prelude.{Some, Ok, Err}
use Rattle.std.specs.Int.Bits.{bit_xor}
use Rattle.net_defs.specs.Turn.{IsTurn}
use Rattle.packet_defs.specs.declared.kind.Kind.{Kind}
use Rattle.packet_defs.specs.declared.host_drop.HostDrop.TheVariants.{BadCrc}
use Rattle.packet_defs.specs.Bits.{bits_of, remainder, IsRemainder}
use Rattle.packet_defs.specs.Crc.{crc, contribution, xor_bytes}
use Rattle.packet_defs.specs.RouteByte.{route_byte, turn_of}
use Rattle.packet_defs.specs.Packet.{packet_of, difference, front_turn, stripped, stripped_times}
use Rattle.packet_defs.specs.Burst.{flipped, masked, xor_bits, burst}
use Rattle.packet_defs.specs.Host.{decode}

-- a division by x^8 + x^2 + x + 1 leaves the remainder
abbrev pub DivisionLeavesRemainder : Type 0
DivisionLeavesRemainder = (p : List Bool) → IsRemainder p (remainder p)

-- and leaves nothing else: of q times the divisor plus r, for any r of a degree below 8, the remainder is r
abbrev pub RemainderIsUnique : Type 0
RemainderIsUnique = (p : List Bool) (r : ℕ) → IsRemainder p r → remainder p ≡ r

-- the CRC of the exclusive or of two lists of bytes is that of their CRCs
abbrev pub CrcIsLinear : Type 0
CrcIsLinear = (xs ys : List ℕ) → length xs ≡ length ys → crc (xor_bytes xs ys) ≡ bit_xor (crc xs) (crc ys)

-- a byte in front adds its contribution
abbrev pub CrcAfterFront : Type 0
CrcAfterFront = (byte : ℕ) (rest : List ℕ) → crc (byte ∷ rest) ≡ bit_xor (contribution byte (length rest)) (crc rest)

-- a byte at the end is added to the CRC before it, and the CRC of the one byte that this makes is the whole's
abbrev pub CrcAfterEnd : Type 0
CrcAfterEnd = (bytes : List ℕ) (byte : ℕ) → byte < 256 → crc (bytes ++ byte ∷ []) ≡ crc (bit_xor (crc bytes) byte ∷ [])

-- the powers of x repeat after 127
abbrev pub ContributionRepeats : Type 0
ContributionRepeats = (byte places : ℕ) → contribution byte (127 + places) ≡ contribution byte places

-- the route byte of each turn has that turn
abbrev pub RouteByteHasTurn : Type 0
RouteByteHasTurn = (turn : ℤ) → IsTurn turn → turn_of (route_byte turn) ≡ Some turn

-- and no other byte has it
abbrev pub OnlyRouteByteHasTurn : Type 0
OnlyRouteByteHasTurn = (byte : ℕ) (turn : ℤ) → turn_of byte ≡ Some turn → IsTurn turn × (byte ≡ route_byte turn)

-- the packet that is built has no difference
abbrev pub BuiltIsSound : Type 0
BuiltIsSound = (route : List ℤ) (kind : Kind) (payload : List ℕ) → difference (packet_of route kind payload) ≡ 0

-- it takes the turns of its route in order: the first is in front, and a strip leaves the packet of the others
abbrev pub BuiltBeginsWithTurn : Type 0
BuiltBeginsWithTurn = (turn : ℤ) (route : List ℤ) (kind : Kind) (payload : List ℕ) → IsTurn turn
    → front_turn (packet_of (turn ∷ route) kind payload) ≡ Some turn

-- a strip leaves the packet of the other turns
abbrev pub StripLeavesOtherTurns : Type 0
StripLeavesOtherTurns = (turn : ℤ) (route : List ℤ) (kind : Kind) (payload : List ℕ)
    → stripped (packet_of (turn ∷ route) kind payload) ≡ packet_of route kind payload

-- and without turns a host takes its kind and payload
abbrev pub BuiltIsTaken : Type 0
BuiltIsTaken = (kind : Kind) (payload : List ℕ) → decode (packet_of [] kind payload) ≡ Ok (kind, payload)

-- a strip keeps the difference
abbrev pub StripKeepsDifference : Type 0
StripKeepsDifference = (wire : List ℕ) → 2 ≤ length wire → difference (stripped wire) ≡ difference wire

-- and takes one byte
abbrev pub StripTakesOneByte : Type 0
StripTakesOneByte = (wire : List ℕ) → 2 ≤ length wire → length (stripped wire) + 1 ≡ length wire

-- so do many strips
abbrev pub StripsKeepDifference : Type 0
StripsKeepDifference = (n : ℕ) (wire : List ℕ) → n < length wire → difference (stripped_times n wire) ≡ difference wire

-- a flip changes the bits of the pattern, from its bit on, and no others
abbrev pub FlipAddsBurst : Type 0
FlipAddsBurst = (bytes : List ℕ) (bit pattern : ℕ) → pattern < 256 → bit + 8 ≤ 8 * length bytes
    → bits_of (flipped bytes bit pattern) ≡ xor_bits (bits_of bytes) (burst (8 * length bytes) bit pattern)

-- it writes two neighbouring bytes at most
abbrev pub FlipWritesTwoBytes : Type 0
FlipWritesTwoBytes =
    (bytes : List ℕ) (bit pattern : ℕ) → pattern < 256
    → flipped bytes bit pattern ≡ masked (masked bytes (bit / 8) (pattern / 2 ^ (bit % 8))) (bit / 8 + 1)
    (pattern * 2 ^ (8 - bit % 8) % 256)

-- and keeps the length
abbrev pub FlipKeepsLength : Type 0
FlipKeepsLength = (bytes : List ℕ) (bit pattern : ℕ) → length (flipped bytes bit pattern) ≡ length bytes

-- one burst in a packet without a difference leaves one
abbrev pub FlipIsSeen : Type 0
FlipIsSeen =
    (wire : List ℕ) (bit pattern : ℕ) → difference wire ≡ 0 → 0 < pattern → pattern < 256 → bit + 8 ≤ 8 * length wire
    → 0 < difference (flipped wire bit pattern)

-- a difference is seen at every host
abbrev pub DifferenceIsDropped : Type 0
DifferenceIsDropped = (wire : List ℕ) → 0 < difference wire → decode wire ≡ Err BadCrc

-- so a flipped packet is dropped at every host, after any number of strips
abbrev pub FlippedIsDropped : Type 0
FlippedIsDropped =
    (n : ℕ) (wire : List ℕ) (bit pattern : ℕ) → difference wire ≡ 0 → 0 < pattern → pattern < 256
    → bit + 8 ≤ 8 * length wire → n < length wire
    → decode (stripped_times n (flipped wire bit pattern)) ≡ Err BadCrc
