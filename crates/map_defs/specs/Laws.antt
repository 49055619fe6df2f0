-- The laws of maps.
use Rattle.std.specs.Prelude.{◌≡◌, ◌↔◌, ℕ, ◌<◌, ◌≤◌, List, length, Some}
use Rattle.net_defs.specs.declared.route.Route.{Route}
use Rattle.map_defs.specs.declared.rank.RankEntry.{RankEntry}
use Rattle.map_defs.specs.NetMap.{NetMap, MapPort, IsMap, IsCabled, IsConnected, map_far, map_edges}
use Rattle.map_defs.specs.Orientation.{root, level, order_of, IsOrder}
use Rattle.map_defs.specs.Routing.{IsLeastLegal}
use Rattle.std.specs.List.{AllByRecursion}
use Rattle.net_defs.specs.Network.{Network}
use Rattle.journal_defs.specs.Edges.{Steps}
use Rattle.map_defs.specs.Sameness.{IsSame, IsMapOfPart, graph_of_map}
use Rattle.net_defs.specs.Dependencies.{IsBefore, HasNoCycle}
use Rattle.map_defs.specs.Ranks.{IsCertificate, channels_of_routes, ranks_of}

-- the far end of a port of a map is what a cable joins to it
abbrev pub FarIsCabled : Type 0
FarIsCabled = (m : NetMap) (d e : MapPort) → IsMap m → (map_far m d ≡ Some e) ↔ IsCabled m d e

-- routes with a rank certificate have no cycle of dependencies
abbrev pub CertificateLeavesNoCycle : Type 0
CertificateLeavesNoCycle = (m : NetMap) (routes : List Route) (ranks : List RankEntry) → IsCertificate m routes ranks
    → HasNoCycle (IsBefore (channels_of_routes m routes))

-- the same of channels by number: numbers that rise along every route leave no cycle
abbrev pub RisingLeavesNoCycle : Type 0
RisingLeavesNoCycle = (routes : List (List ℕ)) (rank : ℕ → ℕ) → ((c d : ℕ) → IsBefore routes c d → rank c < rank d)
    → HasNoCycle (IsBefore routes)

-- Sameness of maps is an equivalence.
pub record SamenessIsEquivalence : Type 0 where
  pub itself : (m : NetMap) → IsSame (graph_of_map m) (graph_of_map m)
  pub symmetric : (m k : NetMap) → IsSame (graph_of_map m) (graph_of_map k) → IsSame (graph_of_map k) (graph_of_map m)
  pub transitive : (m k o : NetMap) → IsSame (graph_of_map m) (graph_of_map k)
      → IsSame (graph_of_map k) (graph_of_map o) → IsSame (graph_of_map m) (graph_of_map o)

-- what is the same as a right map is right too
abbrev pub SameMapIsRight : Type 0
SameMapIsRight = (n : Network) (host : ℕ) (m k : NetMap) → IsSame (graph_of_map k) (graph_of_map m)
    → IsMapOfPart n host m → IsMapOfPart n host k

-- the level of a vertex is the length of a shortest path from the root
pub record IsLevel (m : NetMap) (v : ℕ) : Type 0 where
  pub path : Steps (map_edges m.cables) (root m) (level m v) v
  pub least : (k : ℕ) → Steps (map_edges m.cables) (root m) k v → level m v ≤ k

-- in a connected map each vertex has its level
abbrev pub LevelsAreDistances : Type 0
LevelsAreDistances = (m : NetMap) (v : ℕ) → IsMap m → IsConnected m → v < length m.vertices → IsLevel m v

-- the places of a map's vertices are an order
abbrev pub PlacesAreAnOrder : Type 0
PlacesAreAnOrder = (m : NetMap) → IsOrder (order_of m) (length m.vertices)

-- the ranks by an order certify routes that are least among the legal ones
abbrev pub RanksCertify : Type 0
RanksCertify = (m : NetMap) (order : List ℕ) (routes : List Route) → IsMap m → IsOrder order (length m.vertices)
    → AllByRecursion (λ r. IsLeastLegal m order r.from r.to r.walk) routes → IsCertificate m routes (ranks_of m order)
