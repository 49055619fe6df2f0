use Rattle.rank_cert.specs.Crossing.{AreCrossings}
use Rattle.rank_cert.proofs.crossings.crossings.Given as goal

abbrev pub invariant-loop-entry : goal.invariant-loop-entry
invariant-loop-entry l = AreCrossings l.m l.k l.table.items
