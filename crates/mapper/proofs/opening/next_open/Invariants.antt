use Rattle.mapper.specs.Growths.{AreExpanded}
use Rattle.mapper.proofs.opening.next_open.Given as goal

abbrev pub invariant-loop-place : goal.invariant-loop-place
invariant-loop-place l = AreExpanded l.journal.host l.depth l.journal.entries l.from l.place
