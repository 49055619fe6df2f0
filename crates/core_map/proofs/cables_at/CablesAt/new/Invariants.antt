use Rattle.core_map.specs.Walking.{AreLinked}
use Rattle.core_map.proofs.cables_at.CablesAt.new.Given as goal

abbrev pub invariant-loop-i : goal.invariant-loop-i
invariant-loop-i l = AreLinked l.m l.at l.i
