-- What single words say: hosts and ends of the fabric, numbers, turns, vertices of a map, and bytes.
use Rattle.std.specs.Prelude.{ℕ, ◌+◌, ◌-◌, ◌*◌, ◌^◌, ℤ, Bool, ◌&&◌, ◌||◌, List, [], ◌∷◌, nat_eq, nat_lt}
use Rattle.std.specs.Prelude.{nat_le, codes, bytes_eq, if◌then◌else◌, Option, Some, None, option_map, option_and_then}
use Rattle.std.specs.Prelude.{Result, Ok, Err}
use Rattle.net_defs.specs.declared.vertex.Vertex.{Vertex}
use Rattle.net_defs.specs.declared.vertex.Vertex.TheVariants.{Host, Switch}
use Rattle.net_defs.specs.declared.vertex.End.{End}
use Rattle.net_defs.specs.Network.{Network, ports_of}
use Rattle.net_defs.specs.Building.{vertex_named}
use Rattle.map_defs.specs.declared.vertex.MapVertex.{MapVertex}
use Rattle.map_defs.specs.declared.vertex.MapVertex.TheVariants.{Host as MapHost, Switch as MapSwitch}
use Rattle.fab_text.specs.declared.fault.NumFault.{NumFault}
use Rattle.fab_text.specs.Word.{is_digit, number_within, turn_of}

-- what was read, where it has no fault
abbrev pub where_read : {X : Type 0} → Result X NumFault → Option X
where_read (Ok x) = Some x
where_read (Err e) = None

-- the number that a word says, which may be at most so large
abbrev pub number_said : ℕ → List ℕ → Option ℕ
number_said most w = where_read (number_within most w)

-- a number of which something is judged: at most 2^64 - 1
abbrev pub value_said : List ℕ → Option ℕ
value_said w = number_said (2 ^ 64 - 1) w

-- the turn that a word says, or the port of a map
abbrev pub turn_said : List ℕ → Option ℤ
turn_said w = where_read (turn_of w)

-- the address of a vertex that is a host
abbrev pub address_in : Option Vertex → Option ℕ
address_in None = None
address_in (Some (Host h)) = Some h
address_in (Some (Switch s)) = None

-- the address of the host of a name
abbrev pub host_said : Network → List ℕ → Option ℕ
host_said n w = address_in (vertex_named n w)

-- this port of a vertex, where the fabric has it
abbrev pub end_in : Network → Option Vertex → Option ℕ → Option End
end_in n None p = None
end_in n (Some v) None = None
end_in n (Some v) (Some p) = if nat_lt p (ports_of n v) then Some (record { v = v; p = p }) else None

-- `V P`: an end of the fabric
abbrev pub end_said : Network → List ℕ → List ℕ → Option End
end_said n v p = end_in n (vertex_named n v) (value_said p)

-- a vertex of a map, by its first byte: `#K` is a switch, and another word a host of the fabric
abbrev pub vertex_said : Network → List ℕ → Option MapVertex
vertex_said n [] = option_map MapHost (host_said n [])
vertex_said n (b ∷ bs) = if nat_eq b 35 then option_map MapSwitch (number_said (2 ^ 32 - 1) bs)
    else option_map MapHost (host_said n (b ∷ bs))

-- a hexadecimal digit, lower case
abbrev pub is_hex_digit : ℕ → Bool
is_hex_digit b = is_digit b || (nat_le 97 b && nat_le b 102)

-- its value
abbrev pub hex_value : ℕ → ℕ
hex_value b = if is_digit b then b - 48 else b - 87

-- the byte of two digits
abbrev pub byte_said : ℕ → ℕ → Option ℕ
byte_said a b = if is_hex_digit a && is_hex_digit b then Some (16 * hex_value a + hex_value b) else None

-- bytes of two digits each
abbrev pub pairs_said : List ℕ → Option (List ℕ)
pairs_said [] = Some []
pairs_said (a ∷ []) = None
pairs_said (a ∷ b ∷ w) =
    option_and_then (λ x. option_and_then (λ xs. Some (x ∷ xs)) (pairs_said w)) (byte_said a b)

-- The bytes that a word says: two digits each, or `-` for none.
abbrev pub bytes_said : List ℕ → Option (List ℕ)
bytes_said w = if bytes_eq w (codes "-") then Some [] else pairs_said w
