-- The bytes of type 0x0005: probes, replies, route parts and their acknowledgements. Numbers stand with the greatest
-- byte first; a route is one byte n, at most 64, and n route bytes.
use Rattle.std.specs.Prelude.{ℕ, zero, suc, ◌^◌, ℤ, Bool, true, ◌&&◌, List, [], ◌∷◌, ◌++◌, map, length, take, drop}
use Rattle.std.specs.Prelude.{nat_eq, nat_lt, nat_le, if◌then◌else◌, Option, Some, None, option_map, option_and_then}
use Rattle.std.specs.List.{list_all}
use Rattle.std.specs.Int.{Width, w16, w32, w64, to_be_bytes, from_be_bytes}
use Rattle.net_defs.specs.Turn.{is_turn}
use Rattle.packet_defs.specs.RouteByte.{route_byte, turns_of}

-- An entry of a table is the route to a host.
pub record RouteEntry : Type 0 where
  pub to : ℕ
  pub walk : List ℤ

-- A part of a host's table names the epoch of the routes, their mapper, the host, and which part it is of how many. It
-- has the way back, and entries.
pub record RoutePart : Type 0 where
  pub epoch : ℕ
  pub mapper : ℕ
  pub dst : ℕ
  pub part : ℕ
  pub parts : ℕ
  pub back : List ℤ
  pub entries : List RouteEntry

-- What a body of the mapper's protocol says.
pub data MappingBody : Type 0 where
  HostProbe : (number mapper : ℕ) → (back : List ℤ) → MappingBody
  HostReply : (number host : ℕ) → MappingBody
  Loopback : (number mapper : ℕ) → MappingBody
  Part : RoutePart → MappingBody
  PartAck : (epoch host part : ℕ) → MappingBody

-- the bytes of a route
abbrev pub route_bytes : List ℤ → List ℕ
route_bytes walk = length walk ∷ map route_byte walk

-- the bytes of entries, end to end: each a host and a route
abbrev pub entry_bytes : List RouteEntry → List ℕ
entry_bytes [] = []
entry_bytes (e ∷ es) = to_be_bytes w16 e.to ++ route_bytes e.walk ++ entry_bytes es

-- the bytes of a body: its kind, then its numbers and routes in this order
abbrev pub mapping_bytes : MappingBody → List ℕ
mapping_bytes (HostProbe number mapper back) = 1 ∷ to_be_bytes w64 number ++ to_be_bytes w16 mapper ++ route_bytes back
mapping_bytes (HostReply number host) = 2 ∷ to_be_bytes w64 number ++ to_be_bytes w16 host
mapping_bytes (Loopback number mapper) = 3 ∷ to_be_bytes w64 number ++ to_be_bytes w16 mapper
mapping_bytes (Part p) =
    4 ∷ to_be_bytes w32 p.epoch ++ to_be_bytes w16 p.mapper ++ to_be_bytes w16 p.dst
    ++ p.part ∷ p.parts ∷ route_bytes p.back
    ++ length p.entries ∷ entry_bytes p.entries
mapping_bytes (PartAck epoch host part) = 5 ∷ to_be_bytes w32 epoch ++ to_be_bytes w16 host ++ part ∷ []

-- a route has at most 64 turns, each from -15 to 15
abbrev pub is_route : List ℤ → Bool
is_route walk = nat_le (length walk) 64 && list_all is_turn walk

-- entries have routes, and their hosts rise
abbrev pub are_entries : List RouteEntry → Bool
are_entries [] = true
are_entries (e ∷ es) = nat_lt e.to (2 ^ 16) && is_route e.walk && list_all (λ d. nat_lt e.to d.to) es && are_entries es

-- the rules of a route part
abbrev pub is_part : RoutePart → Bool
is_part p =
    nat_lt p.epoch (2 ^ 32) && nat_lt p.mapper (2 ^ 16) && nat_lt p.dst
    (2 ^ 16) && nat_lt p.part p.parts && nat_le p.parts 16
    && is_route p.back && nat_le 1 (length p.entries) && nat_le (length p.entries) 8 && are_entries p.entries

-- the rules of a body
abbrev pub is_mapping : MappingBody → Bool
is_mapping (HostProbe number mapper back) = nat_lt number (2 ^ 64) && nat_lt mapper (2 ^ 16) && is_route back
is_mapping (HostReply number host) = nat_lt number (2 ^ 64) && nat_lt host (2 ^ 16)
is_mapping (Loopback number mapper) = nat_lt number (2 ^ 64) && nat_lt mapper (2 ^ 16)
is_mapping (Part p) = is_part p
is_mapping (PartAck epoch host part) = nat_lt epoch (2 ^ 32) && nat_lt host (2 ^ 16) && nat_lt part 256

-- a value that stands in front of bytes, and the bytes after it
abbrev pub Front : Type 0 → Type 0
Front A = Option (A × List ℕ)

-- a number of so many bytes in front
abbrev pub number_front : Width → ℕ → List ℕ → Front ℕ
number_front w count bytes = if nat_le count (length bytes)
    then Some (from_be_bytes w (take count bytes), drop count bytes) else None

-- the byte in front
abbrev pub byte_front : List ℕ → Front ℕ
byte_front [] = None
byte_front (byte ∷ bytes) = Some (byte, bytes)

-- so many turns in front
abbrev pub turns_front : ℕ → List ℕ → Front (List ℤ)
turns_front n bytes = if nat_le n 64 && nat_le n (length bytes) then option_map (λ turns.
    (turns, drop n bytes)) (turns_of (take n bytes)) else None

-- the route in front
abbrev pub route_front : List ℕ → Front (List ℤ)
route_front bytes = option_and_then (λ n. turns_front n.0 n.1) (byte_front bytes)

-- the entry in front
abbrev pub entry_front : List ℕ → Front RouteEntry
entry_front bytes =
    option_and_then (λ to. option_map (λ walk. (record { to = to.0; walk = walk.0 }, walk.1)) (route_front to.1))
    (number_front w16 2 bytes)

-- so many entries in front
abbrev pub entries_front : ℕ → List ℕ → Front (List RouteEntry)
entries_front zero bytes = Some ([], bytes)
entries_front (suc k) bytes = option_and_then (λ e.
    option_map (λ es. (e.0 ∷ es.0, es.1)) (entries_front k e.1)) (entry_front bytes)

-- a value that is all of the bytes
abbrev pub whole : {A : Type 0} → Front A → Option A
whole None = None
whole (Some (a, [])) = Some a
whole (Some (a, byte ∷ bytes)) = None

-- two numbers, the first of so many bytes, the second of two
abbrev pub two_front : Width → ℕ → List ℕ → Front (ℕ × ℕ)
two_front w count bytes =
    option_and_then (λ n. option_map (λ m. ((n.0, m.0), m.1)) (number_front w16 2 n.1)) (number_front w count bytes)

-- a route part with what is in front: its entries, with their number before them; before these its way back; before
-- it part and parts; before them the host
abbrev pub with_entries : RoutePart → List ℕ → Front RoutePart
with_entries p bytes =
    option_and_then (λ n. option_map (λ es. (record p { entries = es.0 }, es.1)) (entries_front n.0 n.1))
    (byte_front bytes)

-- a part with its way back in front
abbrev pub with_back : RoutePart → List ℕ → Front RoutePart
with_back p bytes = option_and_then (λ back. with_entries (record p { back = back.0 }) back.1) (route_front bytes)

-- a part with its number and the number of parts in front
abbrev pub with_parts : RoutePart → List ℕ → Front RoutePart
with_parts p bytes =
    option_and_then (λ part. option_and_then (λ parts.
    with_back (record p { part = part.0; parts = parts.0 }) parts.1) (byte_front part.1)) (byte_front bytes)

-- a part with its host in front
abbrev pub with_dst : RoutePart → List ℕ → Front RoutePart
with_dst p bytes = option_and_then (λ dst. with_parts (record p { dst = dst.0 }) dst.1) (number_front w16 2 bytes)

-- the route part, the acknowledgement of one, and the host probe in front
abbrev pub part_front : List ℕ → Front RoutePart
part_front bytes =
    option_and_then
    (λ two. with_dst (record {
      epoch = two.0.0;
      mapper = two.0.1;
      dst = 0;
      part = 0;
      parts = 0;
      back = [];
      entries = [];
    }) two.1)
    (two_front w32 4 bytes)

-- the acknowledgement of a part in front
abbrev pub ack_front : List ℕ → Front MappingBody
ack_front bytes = option_and_then (λ two. option_map (λ part.
    (PartAck two.0.0 two.0.1 part.0, part.1)) (byte_front two.1)) (two_front w32 4 bytes)

-- a host probe in front
abbrev pub probe_front : List ℕ → Front MappingBody
probe_front bytes = option_and_then (λ two. option_map (λ back.
    (HostProbe two.0.0 two.0.1 back.0, back.1)) (route_front two.1)) (two_front w64 8 bytes)

-- the body of a kind in front of these bytes
abbrev pub of_kind : ℕ → List ℕ → Front MappingBody
of_kind kind bytes =
    if nat_eq kind 1 then probe_front bytes
    else if nat_eq kind 2 then option_map (λ two. (HostReply two.0.0 two.0.1, two.1)) (two_front w64 8 bytes)
    else if nat_eq kind 3 then option_map (λ two. (Loopback two.0.0 two.0.1, two.1)) (two_front w64 8 bytes)
    else if nat_eq kind 4 then option_map (λ p. (Part p.0, p.1)) (part_front bytes)
    else if nat_eq kind 5 then ack_front bytes
    else None

-- a body, if it is by the rules
abbrev pub by_the_rules : Option MappingBody → Option MappingBody
by_the_rules None = None
by_the_rules (Some b) = if is_mapping b then Some b else None

-- what a body says
abbrev pub decode_mapping : List ℕ → Option MappingBody
decode_mapping [] = None
decode_mapping (kind ∷ bytes) = by_the_rules (whole (of_kind kind bytes))
