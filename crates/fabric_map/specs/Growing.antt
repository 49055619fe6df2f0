-- How a map in memory grows by a host, a switch or a cable, and what refuses it.
use Rattle.std.specs.Prelude.{ℕ, ◌<◌, ◌^◌, pos, ◌-ℤ◌, Bool, true, ◌&&◌, ◌||◌, not, List, [], ◌∷◌, ◌++◌, length, nat_eq}
use Rattle.std.specs.Prelude.{nat_lt, nat_le, is_some, if◌then◌else◌, Option, Some, None}
use Rattle.std.specs.Ordering.{int_eq}
use Rattle.std.specs.List.{list_any, list_all}
use Rattle.net_defs.specs.Turn.{is_turn}
use Rattle.map_defs.specs.declared.vertex.MapVertex.TheVariants.{Host, Switch}
use Rattle.map_defs.specs.declared.vertex.MapCable.{MapCable}
use Rattle.map_defs.specs.NetMap.{NetMap, MapPort, IsMap, first_end, second_end, same_port, map_far, map_ends}
use Rattle.map_defs.specs.NetMap.{is_switch_vertex, switches_of}
use Rattle.map_defs.specs.Routing.{is_host_named}
use Rattle.fabric_map.specs.declared.fault.MapFault.{MapFault}
use Rattle.fabric_map.specs.declared.fault.MapFault.TheVariants.{HostTaken, Full, NoVertex, PortRange, PortUsed}

-- A map whose vertices and cables have numbers of 32 bits.
pub record IsFabricMap (m : NetMap) : Type 0 where
  pub is_map : IsMap m
  pub few_vertices : length m.vertices < 2 ^ 32
  pub few_cables : length m.cables < 2 ^ 32

-- the map without vertices
abbrev pub empty_map : NetMap
empty_map = record { vertices = []; cables = []; core = [] }

-- a host is always of the core
abbrev pub with_host : NetMap → ℕ → NetMap
with_host m h = record { vertices = m.vertices ++ Host h ∷ []; cables = m.cables; core = m.core ++ true ∷ [] }

-- a switch has the next number
abbrev pub with_switch : NetMap → Bool → NetMap
with_switch m mark = record {
  vertices = m.vertices ++ Switch (length (switches_of m.vertices)) ∷ [];
  cables = m.cables;
  core = m.core ++ mark ∷ [];
}

-- the map with one cable more
abbrev pub with_cable : NetMap → MapCable → NetMap
with_cable m c = record { vertices = m.vertices; cables = m.cables ++ c ∷ []; core = m.core }

-- the map with other cables
abbrev pub with_cables : NetMap → List MapCable → NetMap
with_cables m cables = record { vertices = m.vertices; cables = cables; core = m.core }

-- the map with other marks of its core
abbrev pub with_core : NetMap → List Bool → NetMap
with_core m marks = record { vertices = m.vertices; cables = m.cables; core = marks }

-- no number of 32 bits is left for one more
abbrev pub is_full : ℕ → Bool
is_full count = nat_le 4294967295 count

-- the host stands in the map
abbrev pub has_host : NetMap → ℕ → Bool
has_host m h = list_any (is_host_named h) m.vertices

-- why a map doesn't take a host: first its address, then their number
abbrev pub host_refusal : NetMap → ℕ → Option MapFault
host_refusal m h = if has_host m h then Some HostTaken else if is_full (length m.vertices) then Some Full else None

-- why it doesn't take a switch
abbrev pub switch_refusal : NetMap → Option MapFault
switch_refusal m = if is_full (length m.vertices) then Some Full else None

-- two ports of one vertex are at most 15 apart
abbrev pub is_near : MapPort → MapPort → Bool
is_near d e = not (nat_eq d.v e.v) || is_turn (d.p -ℤ e.p)

-- each cabled port of the vertex of a port is near to it
abbrev pub are_near : List MapCable → MapPort → Bool
are_near cables d = list_all (λ e. is_near e d) (map_ends cables)

-- a vertex may have the port: from -15 to 15, 0 at a host, and near to those that are cabled
abbrev pub may_have : NetMap → MapPort → Bool
may_have m d = is_turn d.p && ((is_switch_vertex m d.v || int_eq d.p (pos 0)) && are_near m.cables d)

-- a cable would end where one ends already, or at one port with both ends
abbrev pub is_used : NetMap → MapCable → Bool
is_used m c = is_some (map_far m (first_end c)) || is_some (map_far m (second_end c)) || same_port (first_end c)
    (second_end c)

-- why it doesn't take a cable
abbrev pub cable_refusal : NetMap → MapCable → Option MapFault
cable_refusal m c =
    if not (nat_lt c.v (length m.vertices)) then Some NoVertex
    else if not (nat_lt c.w (length m.vertices)) then Some NoVertex
    else if not (may_have m (first_end c)) then Some PortRange
    else if not (may_have m (second_end c)) then Some PortRange
    else if not (is_near (first_end c) (second_end c)) then Some PortRange
    else if is_used m c then Some PortUsed
    else if is_full (length m.cables) then Some Full
    else None
