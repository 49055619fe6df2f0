-- The classes of a journal that grows no more.
use Rattle.std.specs.Prelude.{ℕ, ℤ, false, Bool, List, []}
use Rattle.journal_defs.specs.declared.entry.Entry.{Entry}
use Rattle.port_align.specs.declared.frame.ClassFrame.{ClassFrame}
use Rattle.replicate_merge.specs.Kept.{Kept}
use Rattle.replicate_merge.specs.Nodes.{nodes_of}
use Rattle.replicate_merge.specs.Table.{ClassTable, IsNumbered, HasReplicatesTogether, HasOnlyReplicatesTogether}
use Rattle.replicate_merge.specs.Table.{HasLeastNodes}

-- no tables by which classes go on
abbrev pub no_tables : Kept
no_tables = record {
  frames = [];
  ends = [];
  hosts = [];
  heads = [];
  names = [];
  asked = [];
  orphans = [];
  ahead = false;
}

-- classes without the tables by which they go on
abbrev pub without_tables : ClassTable → ClassTable
without_tables c = record { nodes = c.nodes; frames = c.frames; expanded = c.expanded; kept = no_tables }

-- classes of these walks' nodes, with these frames and marks
abbrev pub merged_table : List (List ℤ) → List ClassFrame → List Bool → ClassTable
merged_table walks frames marks = record {
  nodes = nodes_of walks;
  frames = frames;
  expanded = marks;
  kept = no_tables;
}

-- The classes are those of a journal's nodes: what is said of classes that stand for it, but of marks and of the
-- tables by which they go on.
pub record AreClassesOf (host : ℕ) (j : List Entry) (c : ClassTable) : Type 0 where
  pub numbered : IsNumbered j c
  pub together : HasReplicatesTogether host j c
  pub only : HasOnlyReplicatesTogether host j c
  pub least : HasLeastNodes c
