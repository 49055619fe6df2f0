-- The core of a map: what no cable between two switches cuts off from all hosts (after Mainwaring et al., SPAA 1997,
-- in a narrower sense).
use Rattle.std.specs.Prelude.{ℕ, zero, suc, Bool, true, ◌&&◌, not, List, [], ◌∷◌, ◌++◌, map, length, nat_eq, is_some}
use Rattle.std.specs.Prelude.{slice_get, if◌then◌else◌, Option, Some, None}
use Rattle.std.specs.List.{list_any, filter}
use Rattle.journal_defs.specs.Counting.{numbers_below}
use Rattle.journal_defs.specs.Edges.{is_among, within}
use Rattle.map_defs.specs.declared.vertex.MapCable.{MapCable}
use Rattle.map_defs.specs.NetMap.{NetMap, map_edges, host_of_vertex, is_switch_vertex}

-- the cables without the one of this number
abbrev pub without : List MapCable → ℕ → List MapCable
without [] k = []
without (c ∷ cs) zero = cs
without (c ∷ cs) (suc k) = c ∷ without cs k

-- what is left joined to a vertex when a cable is taken away
abbrev pub side : NetMap → ℕ → ℕ → List ℕ
side m k v = within nat_eq (map_edges (without m.cables k)) v (length m.vertices)

-- no vertex of these is a host
abbrev pub is_hostless : NetMap → List ℕ → Bool
is_hostless m vs = not (list_any (λ v. is_some (host_of_vertex m v)) vs)

-- the hostless sides that a cable between two switches leaves when it is taken away
abbrev pub hostless_side : NetMap → ℕ → ℕ → List ℕ
hostless_side m k v = if is_hostless m (side m k v) then side m k v else []

-- the hostless sides of a cable, which is one of the map
abbrev pub cut_off : NetMap → ℕ → Option MapCable → List ℕ
cut_off m k None = []
cut_off m k (Some c) = if is_switch_vertex m c.v && is_switch_vertex m c.w then hostless_side m k c.v
    ++ hostless_side m k c.w else []

-- the vertices that the cable of this number joins to the hosts: none unless it is a switch bridge
abbrev pub cut_off_by : NetMap → ℕ → List ℕ
cut_off_by m k = cut_off m k (slice_get m.cables k)

-- the cable cuts something off
abbrev pub is_switch_bridge : NetMap → ℕ → Bool
is_switch_bridge m k = list_any (λ v. true) (cut_off_by m k)

-- the cables of a map that are switch bridges, by their numbers
abbrev pub bridges_of : NetMap → List ℕ
bridges_of m = filter (is_switch_bridge m) (numbers_below (length m.cables))

-- a vertex on a side without hosts
abbrev pub is_outside : NetMap → ℕ → Bool
is_outside m v = list_any (λ k. is_among nat_eq (cut_off_by m k) v) (numbers_below (length m.cables))

-- for each vertex, whether it is of the core
abbrev pub core_of : NetMap → List Bool
core_of m = map (λ v. not (is_outside m v)) (numbers_below (length m.vertices))
