-- That a journal whose found answers are true has a map, and is closed or isn't.
use Rattle.std.specs.Prelude.{◌≡◌, ◌⊎◌, ℕ, ◌<◌, true, List, slice_get, Some}
use Rattle.net_defs.specs.Network.{Network, IsFabric}
use Rattle.journal_defs.specs.declared.entry.Entry.{Entry}
use Rattle.journal_defs.specs.Growth.{IsClosed}
use Rattle.journal_defs.specs.Truth.{IsTrueWhereFound}
use Rattle.journal_defs.specs.Tree.{Node, IsNode, node_below}
use Rattle.map_defs.specs.NetMap.{NetMap}
use Rattle.map_defs.specs.Quotient.{IsLeastNode, HasVertex, IsQuotient}

-- The least nodes of the classes of a journal, in their order: each node has one of its class among them.
pub record HasLeastNodes (host : ℕ) (j : List Entry) : Type 0 where
  pub least : List Node
  pub each_least : (v : ℕ) (u : Node) → slice_get least v ≡ Some u → IsLeastNode host j u
  pub in_order : (v w : ℕ) (u x : Node) → v < w → slice_get least v ≡ Some u → slice_get least w ≡ Some x
      → node_below u x ≡ true
  pub covered : (u : Node) → IsNode j u → HasVertex host j least u

-- there are such nodes where each answer that found something is true
abbrev pub LeastNodesExist : Type 0
LeastNodesExist = (n : Network) (host : ℕ) (j : List Entry) → IsFabric n → IsTrueWhereFound n host j
    → HasLeastNodes host j

-- so such a journal has a map
abbrev pub QuotientExists : Type 0
QuotientExists = (n : Network) (host : ℕ) (j : List Entry) → IsFabric n → IsTrueWhereFound n host j
    → (m : NetMap) × IsQuotient host j m

-- and it is decided whether it is closed
abbrev pub ClosedIsDecided : Type 0
ClosedIsDecided = (n : Network) (host : ℕ) (j : List Entry) → IsFabric n → IsTrueWhereFound n host j
    → IsClosed host j ⊎ ¬ IsClosed host j
