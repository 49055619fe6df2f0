-- Classes in memory, as callers see them.
use Rattle.std.specs.Prelude.{ℕ, ℤ, Bool, List, map}
use Rattle.replicate_merge.specs.declared.settling.Joined.{Joined}
use Rattle.replicate_merge.specs.Heads.{seen_frame}
use Rattle.replicate_merge.specs.Kept.{Kept}
use Rattle.replicate_merge.specs.Nodes.{nodes_of}
use Rattle.replicate_merge.specs.Table.{ClassTable}

-- classes over the nodes of these walks, as callers see them
abbrev pub class_table : List (List ℤ) → Kept → List Bool → ClassTable
class_table walks kept marks = record {
  nodes = nodes_of walks;
  frames = map (seen_frame kept.heads) kept.frames;
  expanded = marks;
  kept = kept;
}

-- the tables of joined classes, with what is known of asks
abbrev pub kept_of : Joined → List ℕ → List (List ℤ) → Bool → Kept
kept_of t asked orphans ahead = record {
  frames = t.frames.items;
  ends = t.ends.items;
  hosts = t.hosts.items;
  heads = t.heads.heads.items;
  names = t.heads.names.items;
  asked = asked;
  orphans = orphans;
  ahead = ahead;
}
