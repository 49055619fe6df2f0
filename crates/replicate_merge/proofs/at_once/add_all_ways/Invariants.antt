use Rattle.replicate_merge.specs.Nodes.{nodes_of}
use Rattle.replicate_merge.specs.AtOnce.{HasOwnWays}
use Rattle.replicate_merge.proofs.at_once.add_all_ways.Given as goal

abbrev pub invariant-loop-at : goal.invariant-loop-at
invariant-loop-at l = HasOwnWays l.j.host l.j.entries (nodes_of l.walks) l.at l.joined
