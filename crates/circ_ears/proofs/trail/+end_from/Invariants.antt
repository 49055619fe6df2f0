use Rattle.std.proofs.Common.{length}
use Rattle.circ_ears.proofs.trail.+end_from.Given as goal

abbrev pub decreases-end_from : goal.decreases-end_from
decreases-end_from l = length l.steps.now
