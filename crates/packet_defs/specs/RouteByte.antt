-- The bytes of a packet's route, each of which stands for a turn.
use Rattle.std.specs.Prelude.{ℕ, ◌+◌, ℤ, pos, ◌-ℤ◌, Bool, ◌&&◌, List, [], ◌∷◌, nat_le, nat_abs, if◌then◌else◌, Option}
use Rattle.std.specs.Prelude.{Some, None, is_some, option_map, option_and_then}
use Rattle.std.specs.Int.{int_rem_euclid}

-- the route byte of a turn: 0x80 + (turn mod 64)
abbrev pub route_byte : ℤ → ℕ
route_byte turn = 128 + nat_abs (int_rem_euclid turn (pos 64))

-- The turn of a route byte: 0x80 to 0x8F stand for 0 to 15, 0xB1 to 0xBF for -15 to -1, and no other byte is a route
-- byte.
abbrev pub turn_of : ℕ → Option ℤ
turn_of byte =
    if nat_le 128 byte && nat_le byte 143 then Some (pos byte -ℤ pos 128)
    else if nat_le 177 byte && nat_le byte 191 then Some (pos byte -ℤ pos 192)
    else None

-- the byte stands for a turn
abbrev pub is_route_byte : ℕ → Bool
is_route_byte byte = is_some (turn_of byte)

-- the turns of these bytes, where each is a route byte
abbrev pub turns_of : List ℕ → Option (List ℤ)
turns_of [] = Some []
turns_of (byte ∷ bytes) = option_and_then (λ turn. option_map (λ turns. turn ∷ turns) (turns_of bytes)) (turn_of byte)
