-- The laws of distances in a fabric.
use Rattle.std.specs.Prelude.{◌≡◌, ◌↔◌, ℕ, ◌≤◌, true}
use Rattle.net_defs.specs.declared.vertex.Vertex.{Vertex}
use Rattle.net_defs.specs.declared.vertex.Vertex.TheVariants.{Host, Switch}
use Rattle.net_defs.specs.Network.{Network, IsFabric, has_vertex, same_vertex}
use Rattle.journal_defs.specs.Edges.{is_among}
use Rattle.journal_defs.specs.Part.{Path, IsInPart, part, distance, farthest, host_distance}

-- the distance between two vertices is the length of a shortest path
pub record IsShortest (n : Network) (x y : Vertex) : Type 0 where
  pub path : Path n x (distance n x y) y
  pub least : (m : ℕ) → Path n x m y → distance n x y ≤ m

-- where a path joins two vertices of a fabric, their distance is that of a shortest one
abbrev pub DistanceIsShortest : Type 0
DistanceIsShortest = (n : Network) (x y : Vertex) (m : ℕ) → IsFabric n → has_vertex n x ≡ true → Path n x m y
    → IsShortest n x y

-- the part that is computed is what paths join to the host
abbrev pub PartIsReached : Type 0
PartIsReached = (n : Network) (host : ℕ) (v : Vertex) → IsFabric n → has_vertex n (Host host) ≡ true
    → (is_among same_vertex (part n host) v ≡ true) ↔ IsInPart n host v

-- each vertex of the part lies within the greatest distance
abbrev pub PartIsNear : Type 0
PartIsNear = (n : Network) (host : ℕ) (v : Vertex) → IsFabric n → has_vertex n (Host host) ≡ true → IsInPart n host v
    → distance n (Host host) v ≤ farthest n host

-- a path of so many cables at most leads to a host
pub record HasHostWithin (n : Network) (x : Vertex) (most : ℕ) : Type 0 where
  pub address : ℕ
  pub cables : ℕ
  pub path : Path n x cables (Host address)
  pub few : cables ≤ most

-- each switch of the part has a host within the greatest of those distances
abbrev pub HostsAreNear : Type 0
HostsAreNear = (n : Network) (host s : ℕ) → IsFabric n → has_vertex n (Host host) ≡ true → IsInPart n host (Switch s)
    → HasHostWithin n (Switch s) (host_distance n host)
