-- Route bytes that stand for the routes they say.
use Rattle.std.specs.Prelude.{ℕ, ℤ, Bool, ◌&&◌, List, nat_lt, nat_le, Option, Some, None, option_map}
use Rattle.std.specs.Prelude.{option_and_then}
use Rattle.packet_defs.specs.RouteByte.{turns_of}
use Rattle.route_parts.specs.declared.head.Head.{Head}
use Rattle.world_defs.specs.Mapping.{RouteEntry, RoutePart, Front, entries_front, whole}

-- the route that is in front, by its bytes and those after
abbrev pub route_viewed : Front (List ℕ) → Front (List ℤ)
route_viewed o = option_and_then (λ p. option_map (λ walk. (walk, p.1)) (turns_of p.0)) o

-- the entry that is in front, by its host and its route bytes and those after
abbrev pub entry_viewed : Front (ℕ × List ℕ) → Front RouteEntry
entry_viewed o = option_and_then (λ p. option_map (λ walk.
    (record { to = p.0.0; walk = walk }, p.1)) (turns_of p.0.1)) o

-- a part of these numbers, with its way back and its entries
abbrev pub part_with : Head → Option (List ℤ) → Option (List RouteEntry) → Option RoutePart
part_with h None entries = None
part_with h (Some back) None = None
part_with h (Some back) (Some entries) =
    Some (record {
      epoch = h.epoch;
      mapper = h.mapper;
      dst = h.dst;
      part = h.part;
      parts = h.parts;
      back = back;
      entries = entries;
    })

-- the part of these numbers, by the bytes of its way back and by so many entries that are all of the other bytes
abbrev pub part_viewed : Head → List ℕ → ℕ → List ℕ → Option RoutePart
part_viewed h back count bytes = part_with h (turns_of back) (whole (entries_front count bytes))

-- the numbers of a part are by the rules, with so many entries
abbrev pub is_ruled : Head → ℕ → Bool
is_ruled h count = nat_lt h.part h.parts && nat_le h.parts 16 && nat_le 1 count && nat_le count 8
