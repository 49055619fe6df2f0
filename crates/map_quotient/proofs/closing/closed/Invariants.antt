use Rattle.map_quotient.proofs.Expanding.{AreExpanded}
use Rattle.map_quotient.proofs.closing.closed.Given as goal

abbrev pub invariant-loop-e : goal.invariant-loop-e
invariant-loop-e l = AreExpanded l.j.host l.j.entries l.entries l.e-index
