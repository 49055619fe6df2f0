-- What circuit answers are worth: they tell the truth or nothing, and a tree of them that is deep enough shows each
-- vertex of the core as one.
use Rattle.std.specs.Prelude.{◌≡◌, ◌⊎◌, ℕ, ◌≤◌, ℤ, List, Some}
use Rattle.net_defs.specs.declared.vertex.End.{End}
use Rattle.net_defs.specs.declared.place.Answer.TheVariants.{Nothing}
use Rattle.net_defs.specs.Network.{Network, IsFabric}
use Rattle.net_defs.specs.Route.{answer}
use Rattle.journal_defs.specs.declared.entry.Entry.{Entry}
use Rattle.journal_defs.specs.Tree.{Node, IsNode}
use Rattle.journal_defs.specs.Replicates.{Replicates}
use Rattle.journal_defs.specs.Truth.{StandTogether, standing}
use Rattle.circ_defs.specs.Circuit.{circuit_answer, IsCircuitJournal, IsWholeTree}
use Rattle.circ_defs.specs.Asking.{IsTreeGrowing, IsTreeEnded}
use Rattle.circ_defs.specs.PathList.{Ear, most_back}
use Rattle.circ_defs.specs.Cores.{IsCore, ArePathsOfCore}

-- A circuit answer differs from the truth only as Nothing.
abbrev pub CircuitTellsTrueOrNothing : Type 0
CircuitTellsTrueOrNothing = (n : Network) (host : ℕ) (w : List ℤ)
    → (circuit_answer n host w ≡ Nothing) ⊎ (circuit_answer n host w ≡ answer n host w)

-- So every merge stays true: two nodes that a journal of circuit answers shows as replicates stand at one vertex.
abbrev pub CircuitMergesAreTrue : Type 0
CircuitMergesAreTrue = (n : Network) (host : ℕ) (j : List Entry) (u v : Node) (k : ℤ) → IsFabric n
    → IsCircuitJournal n host j → Replicates host j u v k → StandTogether n host u v k

-- Where the depth is at least the most cables in a return walk of a path list, two nodes that stand at one vertex of
-- the core are replicates.
abbrev pub CoreVertexHasOneClass : Type 0
CoreVertexHasOneClass = (n : Network) (host depth : ℕ) (j : List Entry) (es : List Ear) (u v : Node) (d e : End)
    → IsFabric n → IsWholeTree n host depth j → ArePathsOfCore n host es → most_back es ≤ depth → IsNode j u
    → IsNode j v → standing n host u ≡ Some d → standing n host v ≡ Some e → d.v ≡ e.v → IsCore n host d.v
    → (k : ℤ) × Replicates host j u v k

-- A tree that was asked in order, until every walk of it was asked, is the whole tree.
abbrev pub GrownTreeIsWhole : Type 0
GrownTreeIsWhole = (n : Network) (host depth : ℕ) (j : List Entry) → IsTreeGrowing n host depth j
    → IsTreeEnded depth j → IsWholeTree n host depth j
