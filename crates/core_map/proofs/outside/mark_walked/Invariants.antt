-- What was met before is marked where it hangs by a cable.
use Rattle.core_map.specs.Hanging.{AreHanging}
use Rattle.core_map.proofs.outside.mark_walked.Given as goal

abbrev pub invariant-loop-j : goal.invariant-loop-j
invariant-loop-j l = AreHanging l.m l.walk l.j l.marks.items
