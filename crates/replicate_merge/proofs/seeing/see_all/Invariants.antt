use Rattle.std.proofs.Common.{◌≡◌}
use Rattle.replicate_merge.proofs.SeenFirst.{seen_first}
use Rattle.replicate_merge.proofs.seeing.see_all.Given as goal

abbrev pub invariant-loop-node : goal.invariant-loop-node
invariant-loop-node l = l.frames.items ≡ seen_first l.heads l.node l.initial.frames.items
