use Rattle.std.proofs.Common.{◌≡◌, ◌++◌, drop}
use Rattle.circ_defs.specs.Ways.{cables_on}
use Rattle.circ_ears.proofs.trail.cables_on.Given as goal

abbrev pub invariant-loop-s : goal.invariant-loop-s
invariant-loop-s l = l.cables.items ++ cables_on (drop l.s-index l.steps) ≡ cables_on l.steps
