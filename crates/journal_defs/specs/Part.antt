-- The mapper's part of a fabric, distances in it, and the depth that suffices to map it.
use Rattle.std.specs.Prelude.{◌≡◌, ℕ, zero, suc, ◌+◌, Bool, true, false, not, List, [], ◌∷◌, ◌++◌, map, length, Option}
use Rattle.std.specs.Prelude.{Some, None}
use Rattle.std.specs.List.{list_any, filter}
use Rattle.net_defs.specs.declared.vertex.Vertex.{Vertex}
use Rattle.net_defs.specs.declared.vertex.Vertex.TheVariants.{Host, Switch}
use Rattle.net_defs.specs.declared.vertex.End.{End}
use Rattle.net_defs.specs.declared.vertex.Cable.{Cable}
use Rattle.net_defs.specs.Network.{Network, far, same_vertex}
use Rattle.net_defs.specs.Route.{host_port, turned}
use Rattle.journal_defs.specs.Counting.{numbers_below, count_failing, greatest, total}
use Rattle.journal_defs.specs.Edges.{is_among, within, edges_between}
use Rattle.journal_defs.specs.Walks.{onward_turns}

-- a path of so many cables from a vertex
pub data Path (n : Network) (x : Vertex) : ℕ → Vertex → Type 0 where
  here : Path n x zero x
  over : {m : ℕ} {v w : Vertex} → Path n x m v → (p q : ℕ)
      → far n (record { v = v; p = p }) ≡ Some (record { v = w; p = q }) → Path n x (suc m) w

-- what paths join to the mapper's host
pub record IsInPart (n : Network) (host : ℕ) (v : Vertex) : Type 0 where
  pub cables : ℕ
  pub path : Path n (Host host) cables v

-- the two vertices of each cable
abbrev pub edges_of : List Cable → List (Vertex × Vertex)
edges_of [] = []
edges_of (c ∷ cs) = (c.a.v, c.b.v) ∷ edges_of cs

-- all vertices of a fabric: its hosts, and then its switches
abbrev pub vertices : Network → List Vertex
vertices n = map Host (numbers_below (length n.hosts)) ++ map Switch (numbers_below (length n.switches))

-- the vertices within so many cables of one
abbrev pub near : Network → Vertex → ℕ → List Vertex
near n x m = within same_vertex (edges_of n.cables) x m

-- the fewest cables between two vertices: the number of vertices where no path joins them
abbrev pub distance : Network → Vertex → Vertex → ℕ
distance n x y = edges_between same_vertex (edges_of n.cables) (length (vertices n)) x y

-- the mapper's part, computed: the vertices that cables join to the mapper's host
abbrev pub part : Network → ℕ → List Vertex
part n host = filter (is_among same_vertex (near n (Host host) (length (vertices n)))) (vertices n)

-- D, the greatest distance from the mapper's host to a vertex of its part
abbrev pub farthest : Network → ℕ → ℕ
farthest n host = greatest (map (distance n (Host host)) (part n host))

-- a vertex that is a host
abbrev pub is_host : Vertex → Bool
is_host (Host h) = true
is_host (Switch s) = false

-- the fewest cables from a vertex to a host
abbrev pub to_a_host : Network → Vertex → ℕ
to_a_host n x = count_failing (length (vertices n)) (λ m. list_any is_host (near n x m))

-- Q, the greatest distance from a switch of the part to its nearest host: 0 without switches
abbrev pub host_distance : Network → ℕ → ℕ
host_distance n host = greatest (map (to_a_host n) (filter (λ v. not (is_host v)) (part n host)))

-- how many walks without turn 0 go on from an end by at most so many turns, and aren't stuck
abbrev pub walks_from : Network → ℕ → Option End → ℕ
walks_from n m None = 0
walks_from n zero (Some e) = 1
walks_from n (suc m) (Some e) = 1 + total (map (λ t. walks_from n m (turned n (Some e) t)) onward_turns)

-- W, the number of walks without turn 0 that cross at most Q + D + 1 cables and end at a host or a switch
abbrev pub walk_count : Network → ℕ → ℕ
walk_count n host = walks_from n (host_distance n host + farthest n host) (far n (host_port host))
