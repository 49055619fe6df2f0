use Rattle.std.proofs.Common.{◌≡◌, false, take}
use Rattle.probe.specs.Keeping.{has_walk}
use Rattle.probe.proofs.chains.found_among.Given as goal

abbrev pub invariant-loop-at : goal.invariant-loop-at
invariant-loop-at g l = has_walk (take l.at (g.W.WalkList.list l.walks)) l.turns ≡ false
