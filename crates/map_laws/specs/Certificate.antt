-- What the map of a journal is: a map, the only one, connected, and the mapper's part of the fabric where the journal
-- is true and closed.
use Rattle.std.specs.Prelude.{◌≡◌, ℕ, ◌≤◌, true, List, length}
use Rattle.net_defs.specs.declared.vertex.Vertex.TheVariants.{Host}
use Rattle.net_defs.specs.Network.{Network, IsFabric, has_vertex}
use Rattle.journal_defs.specs.declared.entry.Entry.{Entry}
use Rattle.journal_defs.specs.Truth.{IsTrueJournal, IsTrueWhereFound}
use Rattle.journal_defs.specs.Growth.{IsGrown, IsClosed}
use Rattle.map_defs.specs.NetMap.{NetMap, IsMap, IsConnected, hosts_of, switches_of}
use Rattle.map_defs.specs.Quotient.{IsQuotient}
use Rattle.map_defs.specs.Core.{core_of}
use Rattle.map_defs.specs.Sameness.{IsSame, IsMapOfPart, graph_of_map}

-- Where a journal has grown, all its answers are true of a fabric and it is closed, its map is the mapper's part of
-- that fabric, the ports up to each switch's offset.
abbrev pub ClosedMapIsRight : Type 0
ClosedMapIsRight = (n : Network) (host depth : ℕ) (j : List Entry) (m : NetMap) → IsFabric n → IsTrueJournal n host j
    → IsGrown host depth j → IsClosed host j → IsQuotient host j m → IsMapOfPart n host m

-- Where each answer that found something is true, the map of a journal keeps the rules of maps: so each of its ports
-- has one cable.
abbrev pub QuotientIsMap : Type 0
QuotientIsMap = (n : Network) (host : ℕ) (j : List Entry) (m : NetMap) → IsFabric n → IsTrueWhereFound n host j
    → IsQuotient host j m → IsMap m

-- A journal has one map, whatever its answers are.
abbrev pub QuotientIsOne : Type 0
QuotientIsOne = (host : ℕ) (j : List Entry) (m k : NetMap) → IsQuotient host j m → IsQuotient host j k → m ≡ k

-- The map of a grown journal is connected, whatever its answers are.
abbrev pub QuotientIsConnected : Type 0
QuotientIsConnected = (host depth : ℕ) (j : List Entry) (m : NetMap) → IsGrown host depth j → IsQuotient host j m
    → IsConnected m

-- A map that is a part of a fabric has no more hosts and no more switches than the fabric.
pub record IsNoLarger (n : Network) (m : NetMap) : Type 0 where
  pub hosts : length (hosts_of m.vertices) ≤ length n.hosts
  pub switches : length (switches_of m.vertices) ≤ length n.switches

-- a right map is no larger than its fabric
abbrev pub RightMapIsNoLarger : Type 0
RightMapIsNoLarger = (n : Network) (host : ℕ) (m : NetMap) → IsFabric n → has_vertex n (Host host) ≡ true
    → IsMapOfPart n host m → IsNoLarger n m

-- Two maps of one part are the same up to offset.
abbrev pub RightMapsAreSame : Type 0
RightMapsAreSame = (n : Network) (host : ℕ) (m k : NetMap) → IsMapOfPart n host m → IsMapOfPart n host k
    → IsSame (graph_of_map m) (graph_of_map k)

-- Maps with the same vertices and cables are the same, whatever is core in them: a map stays right when its core is
-- marked.
abbrev pub MarksDoNotMatter : Type 0
MarksDoNotMatter = (m k : NetMap) → m.vertices ≡ k.vertices → m.cables ≡ k.cables
    → IsSame (graph_of_map m) (graph_of_map k)

-- A map stays a map when its core is marked.
abbrev pub MarkedMapIsMap : Type 0
MarkedMapIsMap = (m : NetMap) → IsMap m → IsMap (record m { core = core_of m })
