-- The nodes of a journal in their order, and the vertices of their classes.
use Rattle.std.specs.Prelude.{◌≡◌, ℕ, ◌<◌, ◌≤◌, true, false, List, length, slice_get, Option, Some}
use Rattle.journal_defs.specs.Tree.{node_below, Node}
use Rattle.replicate_merge.specs.Table.{ClassTable}
use Rattle.replicate_merge.specs.Ways.{node_at, frame_at}

-- the numbers below a count, each at its place
pub record AreNumbersBelow (count : ℕ) (numbers : List ℕ) : Type 0 where
  pub whole : length numbers ≡ count
  pub each : (n : ℕ) → n < count → slice_get numbers n ≡ Some n

-- a number stands among these
pub record IsPlaced (numbers : List ℕ) (n : ℕ) : Type 0 where
  pub place : ℕ
  pub there : slice_get numbers place ≡ Some n

-- These are the numbers of all nodes, and none stands before that of a lesser node.
pub record IsNodeOrder (ns : List Node) (order : List ℕ) : Type 0 where
  pub rises : (i k m n : ℕ) → i < k → slice_get order i ≡ Some m → slice_get order k ≡ Some n
      → node_below (node_at ns n) (node_at ns m) ≡ false
  pub whole : (n : ℕ) → n < length ns → IsPlaced order n
  pub inside : (i n : ℕ) → slice_get order i ≡ Some n → n < length ns
  pub few : length order ≡ length ns

-- the class of a node by its number
abbrev pub class_at : ClassTable → ℕ → ℕ
class_at c n = (frame_at c.frames n).class

-- a class has the vertex of this number
abbrev pub IsVertexOf : List (Option ℕ) → ℕ → ℕ → Type 0
IsVertexOf vertices class v = slice_get vertices class ≡ Some (Some v)

-- The class of a node has a vertex, whose least node is of that class.
pub record HasNumber (c : ClassTable) (least : List ℕ) (vertices : List (Option ℕ)) (n : ℕ) : Type 0 where
  pub vertex : ℕ
  pub is_vertex : IsVertexOf vertices (class_at c n) vertex
  pub node : ℕ
  pub least_node : slice_get least vertex ≡ Some node
  pub one_class : class_at c node ≡ class_at c n
  pub framed : slice_get c.frames n ≡ Some (frame_at c.frames n)
  pub inside : class_at c n < length c.expanded

-- Each vertex has its least node here, in the order of nodes, and each class its vertex.
pub record AreVertices (c : ClassTable) (least : List ℕ) (vertices : List (Option ℕ)) : Type 0 where
  pub few : length least ≤ length c.nodes
  pub inside : (v n : ℕ) → slice_get least v ≡ Some n → n < length c.nodes
  pub own : (v n : ℕ) → slice_get least v ≡ Some n → IsVertexOf vertices (class_at c n) v
  pub first : (v n m : ℕ) → slice_get least v ≡ Some n → m < length c.nodes → class_at c m ≡ class_at c n
      → node_below (node_at c.nodes m) (node_at c.nodes n) ≡ false
  pub in_order : (v w m n : ℕ) → v < w → slice_get least v ≡ Some m → slice_get least w ≡ Some n
      → node_below (node_at c.nodes m) (node_at c.nodes n) ≡ true
  pub whole : (n : ℕ) → n < length c.nodes → HasNumber c least vertices n
