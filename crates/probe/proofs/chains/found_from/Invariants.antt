use Rattle.std.proofs.Common.{length}
use Rattle.probe.specs.Chained.{IsInChain}
use Rattle.probe.proofs.chains.found_from.Given as goal

abbrev pub invariant-searching : goal.invariant-searching
invariant-searching g l = IsInChain (length l.chains.latest.items) (g.W.WalkList.list l.walks) l.turns l.next

abbrev pub decreases-searching : goal.decreases-searching
decreases-searching g l = l.next
