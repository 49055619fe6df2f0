-- That the asking of a tree ends, and that a whole tree has a circuit map.
use Rattle.std.specs.Prelude.{ℕ, List}
use Rattle.net_defs.specs.Network.{Network, IsFabric}
use Rattle.journal_defs.specs.declared.entry.Entry.{Entry}
use Rattle.map_defs.specs.NetMap.{NetMap, AreInOrder}
use Rattle.circ_defs.specs.Asking.{IsTreeGrowing}
use Rattle.circ_defs.specs.Circuit.{IsWholeTree}
use Rattle.circ_defs.specs.CircuitMap.{IsWithoutOutside, IsCircuitMap}
use Rattle.circ_laws.specs.Laws.{IsTreeStopped}

-- A tree that is asked in order comes to its end: each walk of it is asked, or the limit of nodes is passed.
abbrev pub TreeExists : Type 0
TreeExists = (n : Network) (host depth : ℕ) → (j : List Entry) × IsTreeGrowing n host depth j × IsTreeStopped depth j

-- Every map whose cables stand in their order has one without what is outside.
abbrev pub WithoutOutsideExists : Type 0
WithoutOutsideExists = (m : NetMap) → AreInOrder m.cables → (k : NetMap) × IsWithoutOutside m k

-- So a whole tree has a circuit map.
abbrev pub CircuitMapExists : Type 0
CircuitMapExists = (n : Network) (host depth : ℕ) (j : List Entry) → IsFabric n → IsWholeTree n host depth j
    → (k : NetMap) × IsCircuitMap n host depth j k
