-- The circuit map is the core of the mapper's part, where the tree is as deep as a path list asks. It is one, and keeps
-- the rules of maps.
use Rattle.std.specs.Prelude.{◌≡◌, ◌⊎◌, ℕ, ◌≤◌, List}
use Rattle.net_defs.specs.Network.{Network, IsFabric}
use Rattle.journal_defs.specs.declared.entry.Entry.{Entry}
use Rattle.journal_defs.specs.Tree.{IsJournal}
use Rattle.journal_defs.specs.Growth.{IsEndedAtLimit}
use Rattle.map_defs.specs.NetMap.{NetMap, IsMap}
use Rattle.map_defs.specs.Quotient.{IsQuotient}
use Rattle.map_defs.specs.Sameness.{IsSame}
use Rattle.circ_defs.specs.Circuit.{IsWholeTree}
use Rattle.circ_defs.specs.Asking.{IsTreeGrowing, IsTreeEnded, found_of}
use Rattle.circ_defs.specs.PathList.{Ear, most_back}
use Rattle.circ_defs.specs.Cores.{ArePathsOfCore}
use Rattle.circ_defs.specs.CircuitMap.{graph_of_inside, graph_of_core, IsCircuitMap, IsMapOfCore}

-- Where the depth is at least the most cables in a return walk of a path list, what isn't outside in the map of the
-- whole tree is the core, up to each switch's offset.
abbrev pub InsideIsCore : Type 0
InsideIsCore = (n : Network) (host depth : ℕ) (j : List Entry) (es : List Ear) (m : NetMap) → IsFabric n
    → IsWholeTree n host depth j → ArePathsOfCore n host es → most_back es ≤ depth → IsQuotient host j m
    → IsSame (graph_of_inside m) (graph_of_core n host)

-- So the circuit map is the core, up to each switch's offset.
abbrev pub CircuitMapIsCore : Type 0
CircuitMapIsCore = (n : Network) (host depth : ℕ) (j : List Entry) (es : List Ear) (k : NetMap) → IsFabric n
    → ArePathsOfCore n host es → most_back es ≤ depth → IsCircuitMap n host depth j k → IsMapOfCore n host k

-- What a journal found is enough for its map: the entries answered Nothing make no node.
abbrev pub FoundIsEnough : Type 0
FoundIsEnough = (host : ℕ) (j : List Entry) (m : NetMap) → IsJournal j → IsQuotient host (found_of j) m
    → IsQuotient host j m

-- the asking of a tree ends: each walk of it is asked, or the limit of nodes is passed
abbrev pub IsTreeStopped : ℕ → List Entry → Type 0
IsTreeStopped depth j = IsTreeEnded depth j ⊎ IsEndedAtLimit j

-- The tree is asked in one way: two journals that were asked in order until the asking ended are one.
abbrev pub TreeIsOne : Type 0
TreeIsOne = (n : Network) (host depth : ℕ) (j l : List Entry) → IsTreeGrowing n host depth j
    → IsTreeGrowing n host depth l → IsTreeStopped depth j → IsTreeStopped depth l → j ≡ l

-- A tree has one circuit map.
abbrev pub CircuitMapIsOne : Type 0
CircuitMapIsOne = (n : Network) (host depth : ℕ) (j : List Entry) (k l : NetMap) → IsCircuitMap n host depth j k
    → IsCircuitMap n host depth j l → k ≡ l

-- The circuit map keeps the rules of maps, whatever the depth.
abbrev pub CircuitMapIsMap : Type 0
CircuitMapIsMap = (n : Network) (host depth : ℕ) (j : List Entry) (k : NetMap) → IsFabric n
    → IsCircuitMap n host depth j k → IsMap k
