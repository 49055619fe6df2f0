-- The map of a journal: one vertex for each class of replicates.
use Rattle.std.specs.Prelude.{◌≡◌, ◌↔◌, ℕ, suc, ◌<◌, ℤ, ◌+ℤ◌, true, false, List, [], ◌∷◌, map, slice_get, Option, Some}
use Rattle.std.specs.Prelude.{None}
use Rattle.journal_defs.specs.declared.entry.Entry.{Entry}
use Rattle.journal_defs.specs.Tree.{Node, IsNode, Leads, host_of, node_below}
use Rattle.journal_defs.specs.Replicates.{Replicates}
use Rattle.map_defs.specs.declared.vertex.MapVertex.{MapVertex}
use Rattle.map_defs.specs.declared.vertex.MapVertex.TheVariants.{Host, Switch}
use Rattle.map_defs.specs.NetMap.{NetMap, MapPort, IsCabled, AreInOrder}

-- a node before which none of its class stands
pub record IsLeastNode (host : ℕ) (j : List Entry) (u : Node) : Type 0 where
  pub node : IsNode j u
  pub least : (v : Node) (k : ℤ) → Replicates host j u v k → node_below v u ≡ false

-- The class of a node is the vertex of this number: port p of the node is port p + k of the vertex, which counts as
-- its least node does.
pub record IsOfVertex (host : ℕ) (j : List Entry) (least : List Node) (u : Node) (v : ℕ) (k : ℤ) : Type 0 where
  pub least_node : Node
  pub there : slice_get least v ≡ Some least_node
  pub one_class : Replicates host j u least_node k

-- a node has a vertex
pub record HasVertex (host : ℕ) (j : List Entry) (least : List Node) (u : Node) : Type 0 where
  pub vertex : ℕ
  pub offset : ℤ
  pub is_of : IsOfVertex host j least u vertex offset

-- two ports of vertices are joined, since a port of a node leads to a port of another
pub record IsLed (host : ℕ) (j : List Entry) (least : List Node) (d e : MapPort) : Type 0 where
  pub from : Node
  pub to : Node
  pub p : ℤ
  pub i : ℤ
  pub offset_from : ℤ
  pub offset_to : ℤ
  pub leads : Leads j from p to i
  pub is_from : IsOfVertex host j least from d.v offset_from
  pub is_to : IsOfVertex host j least to e.v offset_to
  pub leaves : d.p ≡ p +ℤ offset_from
  pub enters : e.p ≡ i +ℤ offset_to

-- the vertices of least nodes: hosts by their addresses, all others switches, numbered in their order
abbrev pub named : ℕ → List (Option ℕ) → List MapVertex
named s [] = []
named s (Some h ∷ us) = Host h ∷ named s us
named s (None ∷ us) = Switch s ∷ named (suc s) us

-- The map of a journal: its vertices are the least nodes of the classes in their order, the mapper's host first; its
-- cables are what leads says; and all is core until it is marked.
pub record IsQuotient (host : ℕ) (j : List Entry) (m : NetMap) : Type 0 where
  pub least : List Node
  pub each_least : (v : ℕ) (u : Node) → slice_get least v ≡ Some u → IsLeastNode host j u
  pub in_order : (v w : ℕ) (u x : Node) → v < w → slice_get least v ≡ Some u → slice_get least w ≡ Some x
      → node_below u x ≡ true
  pub covered : (u : Node) → IsNode j u → HasVertex host j least u
  pub vertices : m.vertices ≡ named 0 (map (host_of host j) least)
  pub cabled : (d e : MapPort) → IsCabled m d e ↔ IsLed host j least d e
  pub cables_in_order : AreInOrder m.cables
  pub unmarked : m.core ≡ map (λ v. true) m.vertices
