-- What a host makes of a packet that reaches it.
use Rattle.std.specs.Prelude.{ℕ, ◌+◌, ◌*◌, Bool, false, nat_le, nat_eq, List, [], ◌∷◌, if◌then◌else◌, Option, Some}
use Rattle.std.specs.Prelude.{None, Result, Ok, Err}
use Rattle.packet_defs.specs.declared.kind.Kind.{Kind}
use Rattle.packet_defs.specs.declared.kind.Kind.TheVariants.{Mapping, Gm}
use Rattle.packet_defs.specs.declared.host_drop.HostDrop.{HostDrop}
use Rattle.packet_defs.specs.declared.host_drop.HostDrop.TheVariants.{BadCrc, RouteLeft, UnknownType, Malformed}
use Rattle.packet_defs.specs.Packet.{type_of, head, difference}

-- a head that begins with 0x80 or more has a route left
abbrev pub has_route : List ℕ → Bool
has_route [] = false
has_route (byte ∷ _) = nat_le 128 byte

-- the kind of a type number
abbrev pub kind_of : ℕ → Option Kind
kind_of number = if nat_eq number (type_of Mapping) then Some Mapping else if nat_eq number (type_of Gm) then Some Gm
    else None

-- a packet of a kind that is known, with its payload
abbrev pub of_kind : Option Kind → List ℕ → Result (Kind × List ℕ) HostDrop
of_kind None payload = Err UnknownType
of_kind (Some kind) payload = Ok (kind, payload)

-- the kind and the payload of a head without a route: its type is two bytes, the greater first
abbrev pub body_of : List ℕ → Result (Kind × List ℕ) HostDrop
body_of (high ∷ low ∷ payload) = of_kind (kind_of (256 * high + low)) payload
body_of _ = Err Malformed

-- A host takes the kind and the payload of a packet, or drops it for the first of these reasons: its CRC has a
-- difference, a route is left, its head is too short, it has another type.
abbrev pub decode : List ℕ → Result (Kind × List ℕ) HostDrop
decode wire =
    if nat_eq (difference wire) 0 then if has_route (head wire) then Err RouteLeft else body_of (head wire)
    else Err BadCrc
