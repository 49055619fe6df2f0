use Rattle.map_quotient.proofs.Firsts.{IsNumberedTo}
use Rattle.map_quotient.proofs.numbering.numbered.Given as goal

abbrev pub invariant-loop-node : goal.invariant-loop-node
invariant-loop-node l = IsNumberedTo l.c l.order l.node-index l.least.items l.vertices.items
