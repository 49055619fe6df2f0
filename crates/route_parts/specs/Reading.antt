-- What bytes say of a part of a table or of its acknowledgement, and how a reader comes to know it.
use Rattle.std.specs.Prelude.{ℕ, Bool, true, false, ◌&&◌, List, [], nat_lt, if◌then◌else◌, Option, Some, None}
use Rattle.std.specs.Prelude.{option_map, option_and_then}
use Rattle.std.specs.List.{list_all}
use Rattle.std.specs.Int.{w16, w32}
use Rattle.world_defs.specs.Mapping.{MappingBody, RoutePart, RouteEntry, Front, decode_mapping, is_part, are_entries}
use Rattle.world_defs.specs.Mapping.{number_front, byte_front, two_front, entries_front, with_back, whole}
use Rattle.world_defs.specs.Mapping.MappingBody.{Part, PartAck}
use Rattle.route_parts.specs.declared.ack.PartAck.{PartAck as Acknowledgement}
use Rattle.route_parts.specs.declared.fault.BodyFault.{BodyFault}
use Rattle.route_parts.specs.declared.fault.BodyFault.TheVariants.{Malformed}
use Rattle.route_parts.specs.declared.head.Head.{Head}

-- a part of a table, and no other body
abbrev pub of_part : Option MappingBody → Option RoutePart
of_part (Some (Part p)) = Some p
of_part _ = None

-- what bytes say of a part of a table
abbrev pub part_in : List ℕ → Option RoutePart
part_in bytes = of_part (decode_mapping bytes)

-- an acknowledgement, and no other body
abbrev pub of_ack : Option MappingBody → Option Acknowledgement
of_ack (Some (PartAck epoch host part)) = Some (record { epoch = epoch; host = host; part = part })
of_ack _ = None

-- what bytes say of an acknowledgement of a part
abbrev pub ack_in : List ℕ → Option Acknowledgement
ack_in bytes = of_ack (decode_mapping bytes)

-- the body that is an acknowledgement
abbrev pub ack_body : Acknowledgement → MappingBody
ack_body a = PartAck a.epoch a.host a.part

-- why nothing was read: bytes that aren't in the grammar
abbrev pub missing : {A : Type 0} → Option A → Option BodyFault
missing None = Some Malformed
missing (Some a) = None

-- two bytes in front
abbrev pub bytes_front : List ℕ → Front (ℕ × ℕ)
bytes_front bytes = option_and_then (λ n. option_map (λ m. ((n.0, m.0), m.1)) (byte_front n.1)) (byte_front bytes)

-- the numbers in front of a part after its kind
abbrev pub numbers_front : List ℕ → Front Head
numbers_front bytes =
    option_and_then
    (λ two. option_and_then (λ dst. option_map (λ ps.
    (record { epoch = two.0.0; mapper = two.0.1; dst = dst.0; part = ps.0.0; parts = ps.0.1 }, ps.1))
    (bytes_front dst.1)) (number_front w16 2 two.1))
    (two_front w32 4 bytes)

-- a part of these numbers, without routes yet
abbrev pub part_of : Head → RoutePart
part_of h = record {
  epoch = h.epoch;
  mapper = h.mapper;
  dst = h.dst;
  part = h.part;
  parts = h.parts;
  back = [];
  entries = [];
}

-- a part, if it is by the rules
abbrev pub ruled : Option RoutePart → Option RoutePart
ruled None = None
ruled (Some p) = if is_part p then Some p else None

-- the part of these numbers whose routes are all of the bytes
abbrev pub part_behind : Head → List ℕ → Option RoutePart
part_behind h bytes = ruled (whole (with_back (part_of h) bytes))

-- a host stands above the one before, if there is one
abbrev pub is_above : Option ℕ → ℕ → Bool
is_above None to = true
is_above (Some before) to = nat_lt before to

-- entries that are all of the bytes, and rise above a host
abbrev pub are_risen : Option ℕ → Option (List RouteEntry) → Bool
are_risen before None = false
are_risen before (Some es) = list_all (λ e. is_above before e.to) es && are_entries es

-- so many entries are all of the bytes, and rise above a host
abbrev pub rise_from : Option ℕ → ℕ → List ℕ → Bool
rise_from before count bytes = are_risen before (whole (entries_front count bytes))
