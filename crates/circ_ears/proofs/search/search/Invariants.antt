use Rattle.std.proofs.Common.{◌-◌}
use Rattle.circ_ears.proofs.Searching.{IsSearching}
use Rattle.circ_ears.proofs.search.search.Given as goal

abbrev pub invariant-loop-at : goal.invariant-loop-at
invariant-loop-at l = IsSearching l.f l.old l.first l.ways.items l.at

abbrev pub decreases-loop-at : goal.decreases-loop-at
decreases-loop-at l = 256 - l.at
