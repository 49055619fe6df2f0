-- What is made at once of a whole journal stands for it.
use Rattle.std.proofs.Common.{◌≡◌, ◌<◌, ◌^◌, ℕ, true, List, length, arith}
use Rattle.std.specs.Prelude.{ℤ}
use Rattle.journal_defs.specs.declared.entry.Entry.{Entry}
use Rattle.journal_defs.specs.Tree.{nodes}
use Rattle.replicate_merge.specs.declared.settling.Joined.{Joined}
use Rattle.replicate_merge.specs.Asked.{CountsAsked, HasOrphans}
use Rattle.replicate_merge.specs.Kept.{IsShaped}
use Rattle.replicate_merge.specs.Nodes.{nodes_of}
use Rattle.replicate_merge.specs.Table.{IsTable, StandsFor}
use Rattle.replicate_merge.proofs.Rounds.{kept-stands}
use Rattle.replicate_merge.proofs.Shapes.{shape-kept, table-kept}
use Rattle.replicate_merge.proofs.Telling.{count-nodes}
use Rattle.replicate_merge.specs.AtOnce.{HasAllWays}
use Rattle.replicate_merge.specs.Seen.{class_table, kept_of}
use Rattle.replicate_merge.proofs.Finding.{few-walks}

module _ (host : ℕ) (j : List Entry) (walks : List (List ℤ)) (numbered : nodes_of walks ≡ nodes j) (few : length j < 4294967295) (t : Joined) (all : HasAllWays host j (nodes_of walks) t) (asked : List ℕ) (counts : CountsAsked j (nodes_of walks) asked) (orphans : List (List ℤ)) (has : HasOrphans j orphans true) where
  pub whole-stands : StandsFor host j (class_table walks (kept_of t asked orphans true) t.heads.marks.items)
  whole-stands = kept-stands host j (nodes_of walks) (kept_of t asked orphans true) t.heads.marks.items numbered all.once (record { ways = all.ways; are = all.are; settled = all.settled; asked = counts; orphans = has })

  few-nodes : length (nodes_of walks) < 2 ^ 32
  few-nodes = let w = few-walks j walks numbered in let c = count-nodes walks in let f = few in omega arith

  pub whole-table : IsTable (class_table walks (kept_of t asked orphans true) t.heads.marks.items)
  whole-table = table-kept host j j (nodes_of walks) all.ways t.frames.items t.ends.items t.hosts.items t.heads.heads.items t.heads.names.items t.heads.marks.items all.settled (kept_of t asked orphans true) few-nodes

  pub whole-shape : IsShaped (kept_of t asked orphans true)
  whole-shape = shape-kept host j j (nodes_of walks) all.ways t.frames.items t.ends.items t.hosts.items t.heads.heads.items t.heads.names.items t.heads.marks.items all.settled asked orphans true counts
