use Rattle.replicate_merge.specs.AtOnce.{HasOwnNodes}
use Rattle.replicate_merge.proofs.at_once.add_nodes.Given as goal

abbrev pub invariant-loop-at : goal.invariant-loop-at
invariant-loop-at l = HasOwnNodes l.j.host l.j.entries l.at l.joined
