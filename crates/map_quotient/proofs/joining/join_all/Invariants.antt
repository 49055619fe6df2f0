use Rattle.map_quotient.specs.Joining.{JoinsBelow}
use Rattle.map_quotient.proofs.joining.join_all.Given as goal

abbrev pub invariant-loop-at : goal.invariant-loop-at
invariant-loop-at l = JoinsBelow l.walks l.c l.vertices l.initial.map l.at l.map
