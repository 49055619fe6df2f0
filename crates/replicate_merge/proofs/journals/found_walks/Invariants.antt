use Rattle.std.proofs.Common.{◌≡◌, take}
use Rattle.journal_defs.specs.Tree.{nodes}
use Rattle.replicate_merge.specs.Nodes.{nodes_of}
use Rattle.replicate_merge.proofs.journals.found_walks.Given as goal

abbrev pub invariant-loop-e : goal.invariant-loop-e
invariant-loop-e l = nodes_of l.walks ≡ nodes (take l.e-index l.j.entries)
