-- Maps for worked examples.
use Rattle.std.specs.Prelude.{ℕ, ℤ, pos, negsuc, true, List, [], ◌∷◌, map}
use Rattle.map_defs.specs.declared.vertex.MapVertex.TheVariants.{Host, Switch}
use Rattle.map_defs.specs.declared.vertex.MapVertex.{MapVertex}
use Rattle.map_defs.specs.declared.vertex.MapCable.{MapCable}
use Rattle.net_defs.specs.declared.route.Route.{Route}
use Rattle.map_defs.specs.declared.rank.RankEntry.{RankEntry}
use Rattle.map_defs.specs.NetMap.{NetMap, MapPort}

-- port p of vertex v on a cable to port q of vertex w
abbrev pub cable : ℕ → ℤ → ℕ → ℤ → MapCable
cable v p w q = record { v = v; p = p; w = w; q = q }

-- port p of vertex v
abbrev pub port : ℕ → ℤ → MapPort
port v p = record { v = v; p = p }

-- a map that is all core
abbrev pub unmarked_map : List MapVertex → List MapCable → NetMap
unmarked_map vertices cables = record { vertices = vertices; cables = cables; core = map (λ v. true) vertices }

-- Two hosts at one switch.
abbrev pub two_hosts_map : NetMap
two_hosts_map = unmarked_map (Host 0 ∷ Switch 0 ∷ Host 1 ∷ [])
    (cable 0 (pos 0) 1 (pos 0) ∷ cable 1 (pos 3) 2 (pos 0) ∷ [])

-- The map of two hosts at one switch, its ports counted as the fabric does: two more each.
abbrev pub moved_map : NetMap
moved_map = unmarked_map (Host 0 ∷ Switch 0 ∷ Host 1 ∷ []) (cable 0 (pos 0) 1 (pos 2) ∷ cable 1 (pos 5) 2 (pos 0) ∷ [])

-- A switch that is cabled to itself, behind a switch that has both hosts.
abbrev pub self_cabled_map : NetMap
self_cabled_map =
    unmarked_map
    (Host 0 ∷ Switch 0 ∷ Host 1 ∷ Switch 1 ∷ [])
    (cable 0 (pos 0) 1 (pos 0) ∷ cable 1 (pos 1) 2 (pos 0) ∷ cable 1 (pos 3) 3 (pos 0) ∷ cable 3 (pos 1) 3 (pos 2) ∷ [])

-- A ring of four switches with a host each: hosts a, b, d and c at vertices 0, 5, 6 and 7.
abbrev pub ring_map : NetMap
ring_map =
    unmarked_map
    (Host 0 ∷ Switch 0 ∷ Switch 1 ∷ Switch 2 ∷ Switch 3 ∷ Host 1 ∷ Host 3 ∷ Host 2 ∷ [])
    (
    cable 0 (pos 0) 1 (pos 0)
    ∷ cable 1 (negsuc 1) 2 (pos 0)
    ∷ cable 1 (negsuc 0) 3 (pos 0)
    ∷ cable 2 (negsuc 0) 4 (pos 0)
    ∷ cable 2 (pos 1) 5 (pos 0)
    ∷ cable 3 (pos 1) 4 (negsuc 0)
    ∷ cable 3 (pos 2) 6 (pos 0)
    ∷ cable 4 (pos 1) 7 (pos 0)
    ∷ []
    )

-- a route from a host to another
abbrev pub route : ℕ → ℕ → List ℤ → Route
route from to walk = record { from = from; to = to; walk = walk }

-- the routes of the ring
abbrev pub ring_routes : List Route
ring_routes =
    route 0 1 (negsuc 1 ∷ pos 1 ∷ [])
    ∷ route 0 2 (negsuc 1 ∷ negsuc 0 ∷ pos 1 ∷ [])
    ∷ route 0 3 (negsuc 0 ∷ pos 2 ∷ [])
    ∷ route 1 0 (negsuc 0 ∷ pos 2 ∷ [])
    ∷ route 1 2 (negsuc 1 ∷ pos 1 ∷ [])
    ∷ route 1 3 (negsuc 0 ∷ pos 1 ∷ pos 2 ∷ [])
    ∷ route 2 0 (negsuc 1 ∷ negsuc 0 ∷ pos 1 ∷ [])
    ∷ route 2 1 (negsuc 0 ∷ pos 2 ∷ [])
    ∷ route 2 3 (negsuc 1 ∷ pos 1 ∷ [])
    ∷ route 3 0 (negsuc 1 ∷ pos 1 ∷ [])
    ∷ route 3 1 (negsuc 1 ∷ negsuc 0 ∷ pos 1 ∷ [])
    ∷ route 3 2 (negsuc 0 ∷ pos 2 ∷ [])
    ∷ []

-- Four of them with another choice: from b to d the other way round.
abbrev pub free_routes : List Route
free_routes =
    route 0 2 (negsuc 1 ∷ negsuc 0 ∷ pos 1 ∷ [])
    ∷ route 1 3 (negsuc 1 ∷ negsuc 0 ∷ pos 1 ∷ [])
    ∷ route 2 0 (negsuc 1 ∷ negsuc 0 ∷ pos 1 ∷ [])
    ∷ route 3 1 (negsuc 1 ∷ negsuc 0 ∷ pos 1 ∷ [])
    ∷ []

-- the rank of the channel that leaves port p of vertex v
abbrev pub rank : ℕ → ℤ → ℕ → RankEntry
rank v p r = record { v = v; p = p; rank = r }

-- the ranks of the ring's channels
abbrev pub ring_ranks : List RankEntry
ring_ranks =
    rank 0 (pos 0) 6
    ∷ rank 1 (negsuc 1) 8
    ∷ rank 1 (negsuc 0) 8
    ∷ rank 1 (pos 0) 8
    ∷ rank 2 (negsuc 0) 10
    ∷ rank 2 (pos 0) 5
    ∷ rank 2 (pos 1) 10
    ∷ rank 3 (pos 0) 4
    ∷ rank 3 (pos 1) 11
    ∷ rank 3 (pos 2) 11
    ∷ rank 4 (negsuc 0) 3
    ∷ rank 4 (pos 0) 3
    ∷ rank 4 (pos 1) 12
    ∷ rank 5 (pos 0) 2
    ∷ rank 6 (pos 0) 1
    ∷ rank 7 (pos 0) 0
    ∷ []
