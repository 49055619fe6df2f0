use Rattle.std.proofs.Common.{◌≡◌, ◌≤◌, length}
use Rattle.circ_map.specs.Inside.{marked_below}
use Rattle.circ_map.proofs.inside.marked.Given as goal

abbrev pub invariant-loop-v : goal.invariant-loop-v
invariant-loop-v l = record {
  kept : l.kept.items ≡ marked_below l.marks l.v;
  few : length l.kept.items ≤ l.v;
}
