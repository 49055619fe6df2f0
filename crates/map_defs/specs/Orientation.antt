-- Up and down on a map (up*/down* routing after Autonet; the choice of the root and of the order is this project's
-- own).
use Rattle.std.specs.Prelude.{◌≡◌, ℕ, ◌<◌, Bool, ◌&&◌, ◌||◌, false, List, map, length, nat_eq, nat_lt, slice_index}
use Rattle.std.specs.Prelude.{if◌then◌else◌, Option, Some, None}
use Rattle.std.specs.List.{filter, AllByRecursion}
use Rattle.net_defs.specs.Network.{Apart}
use Rattle.journal_defs.specs.Counting.{numbers_below}
use Rattle.journal_defs.specs.Edges.{edges_between}
use Rattle.map_defs.specs.NetMap.{NetMap, MapPort, map_edges, map_far, is_switch_vertex}

-- vertex 1 where that is a switch, else vertex 0
abbrev pub root : NetMap → ℕ
root m = if is_switch_vertex m 1 then 1 else 0

-- the distance of a vertex from the root
abbrev pub level : NetMap → ℕ → ℕ
level m v = edges_between nat_eq (map_edges m.cables) (length m.vertices) (root m) v

-- the level of each vertex
abbrev pub levels : NetMap → List ℕ
levels m = map (level m) (numbers_below (length m.vertices))

-- one vertex stands before another by level, then by number
abbrev pub stands_before : List ℕ → ℕ → ℕ → Bool
stands_before ls u v = nat_lt (slice_index ls u) (slice_index ls v) ||
    (nat_eq (slice_index ls u) (slice_index ls v) && nat_lt u v)

-- how many vertices stand before one
abbrev pub place_among : List ℕ → ℕ → ℕ
place_among ls v = length (filter (λ u. stands_before ls u v) (numbers_below (length ls)))

-- the place of each vertex
abbrev pub places_by : List ℕ → List ℕ
places_by ls = map (place_among ls) (numbers_below (length ls))

-- the order of the vertices of a map: the place of each
abbrev pub order_of : NetMap → List ℕ
order_of m = places_by (levels m)

-- the place falls from one vertex to the other
abbrev pub falls : List ℕ → ℕ → ℕ → Bool
falls order v w = nat_lt (slice_index order w) (slice_index order v)

-- the place falls to the vertex of this far end, where there is one
abbrev pub falls_to : List ℕ → ℕ → Option MapPort → Bool
falls_to order v None = false
falls_to order v (Some e) = falls order v e.v

-- the channel that leaves by a port is up; every other channel is down
abbrev pub is_up : NetMap → List ℕ → MapPort → Bool
is_up m order d = falls_to order d.v (map_far m d)

-- An order gives each of so many vertices a place, and each place once.
pub record IsOrder (order : List ℕ) (count : ℕ) : Type 0 where
  pub one_each : length order ≡ count
  pub below : AllByRecursion (λ k. k < count) order
  pub once : Apart order
