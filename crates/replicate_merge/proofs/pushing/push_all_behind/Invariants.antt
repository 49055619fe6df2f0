use Rattle.std.proofs.Common.{◌≡◌}
use Rattle.replicate_merge.specs.Nodes.{nodes_of}
use Rattle.replicate_merge.specs.Onward.{AddsBelow}
use Rattle.replicate_merge.proofs.pushing.push_all_behind.Given as goal

abbrev pub invariant-loop-place : goal.invariant-loop-place
invariant-loop-place l = record {
  walk : l.next.items ≡ l.walk;
  adds : AddsBelow (nodes_of l.walks) l.walk l.node l.place l.initial.ways.items l.ways.items;
}
