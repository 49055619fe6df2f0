use Rattle.core_map.specs.Hanging.{AreUnwalked}
use Rattle.core_map.proofs.outside.unwalked.Given as goal

abbrev pub invariant-loop-i : goal.invariant-loop-i
invariant-loop-i l = AreUnwalked l.m l.walk l.i l.marks.items
