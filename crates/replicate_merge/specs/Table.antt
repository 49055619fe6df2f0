-- Classes of a journal's nodes in memory, and when they stand for the journal.
use Rattle.std.specs.Prelude.{◌≡◌, ◌↔◌, ℕ, ◌<◌, ◌≤◌, ◌^◌, ℤ, pos, Bool, true, false, List, length, slice_get, Some}
use Rattle.net_defs.specs.Turn.{IsTurn}
use Rattle.journal_defs.specs.declared.entry.Entry.{Entry}
use Rattle.journal_defs.specs.Tree.{Node, nodes, node_below}
use Rattle.journal_defs.specs.Replicates.{Replicates}
use Rattle.journal_defs.specs.Growth.{HasExpanded}
use Rattle.port_align.specs.declared.frame.ClassFrame.{ClassFrame}
use Rattle.port_align.specs.Offset.{apart}
use Rattle.replicate_merge.specs.Kept.{Kept, IsKept}
pub use Rattle.replicate_merge.specs.Truth.{IsTrueOfOne}

-- The nodes by number, the frame of each, for each class whether it has an expanded member, and the tables by which
-- classes go on.
pub record ClassTable : Type 0 where
  pub nodes : List Node
  pub frames : List ClassFrame
  pub expanded : List Bool
  pub kept : Kept

-- The node of a number is there, with its frame.
pub record IsFramed (c : ClassTable) (n : ℕ) (u : Node) (f : ClassFrame) : Type 0 where
  pub node : slice_get c.nodes n ≡ Some u
  pub frame : slice_get c.frames n ≡ Some f

-- What each table of classes keeps: one frame a node, whose class is one of the classes, and few enough nodes for
-- their numbers.
pub record IsTable (c : ClassTable) : Type 0 where
  pub framed : length c.frames ≡ length c.nodes
  pub few : length c.nodes < 2 ^ 32
  pub counted : length c.expanded ≤ length c.nodes
  pub placed : (n : ℕ) (f : ClassFrame) → slice_get c.frames n ≡ Some f
      → (f.class < length c.expanded) × IsTurn f.offset

-- The mapper's host is node 0, and what was found is numbered in the journal's order.
abbrev pub IsNumbered : List Entry → ClassTable → Type 0
IsNumbered j c = c.nodes ≡ nodes j

-- Replicates have one class, in which they are as far apart.
abbrev pub HasReplicatesTogether : ℕ → List Entry → ClassTable → Type 0
HasReplicatesTogether host j c = (m n : ℕ) (u v : Node) (f g : ClassFrame) (k : ℤ) → IsFramed c m u f
    → IsFramed c n v g → Replicates host j u v k → apart f g ≡ Some k

-- And no other nodes have one class.
abbrev pub HasOnlyReplicatesTogether : ℕ → List Entry → ClassTable → Type 0
HasOnlyReplicatesTogether host j c = (m n : ℕ) (u v : Node) (f g : ClassFrame) (k : ℤ) → IsFramed c m u f
    → IsFramed c n v g → apart f g ≡ Some k → Replicates host j u v k

-- The least node of a class: its ports are those of the class.
pub record HasLeast (c : ClassTable) (class : ℕ) : Type 0 where
  pub number : ℕ
  pub node : Node
  pub framed : IsFramed c number node (record { class = class; offset = pos 0 })
  pub least : (n : ℕ) (v : Node) (g : ClassFrame) → IsFramed c n v g → g.class ≡ class → node_below v node ≡ false

-- Each class has one.
abbrev pub HasLeastNodes : ClassTable → Type 0
HasLeastNodes c = (class : ℕ) → class < length c.expanded → HasLeast c class

-- The classes that are marked are those with an expanded member.
abbrev pub MarksExpanded : ℕ → List Entry → ClassTable → Type 0
MarksExpanded host j c = (n : ℕ) (u : Node) (f : ClassFrame) → IsFramed c n u f
    → (slice_get c.expanded f.class ≡ Some true) ↔ HasExpanded host j u

-- The classes stand for a journal.
pub record StandsFor (host : ℕ) (j : List Entry) (c : ClassTable) : Type 0 where
  pub numbered : IsNumbered j c
  pub together : HasReplicatesTogether host j c
  pub only : HasOnlyReplicatesTogether host j c
  pub least : HasLeastNodes c
  pub expanded : MarksExpanded host j c
  pub kept : IsKept host j c.nodes c.kept c.expanded
