use Rattle.std.proofs.Common.{take}
use Rattle.replicate_merge.specs.Asked.{CountsAsked}
use Rattle.replicate_merge.specs.Nodes.{nodes_of}
use Rattle.replicate_merge.proofs.journals.count_turns.Given as goal

abbrev pub invariant-loop-at : goal.invariant-loop-at
invariant-loop-at l = CountsAsked (take l.at l.j.entries) (nodes_of l.walks) l.asked.items
