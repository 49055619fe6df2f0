use Rattle.std.proofs.Common.{◌-◌, length}
use Rattle.circ_ears.proofs.Taken.{IsTaking}
use Rattle.circ_ears.proofs.path_list.ears.Given as goal

abbrev pub invariant-taking : goal.invariant-taking
invariant-taking l = IsTaking l.f l.host l.taken

abbrev pub decreases-taking : goal.decreases-taking
decreases-taking l = length l.f.cables - length l.taken.cables
