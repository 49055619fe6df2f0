use Rattle.std.proofs.Common.{length}
use Rattle.circ_ears.proofs.two_walks.+two_walks.Given as goal

abbrev pub decreases-two_walks : goal.decreases-two_walks
decreases-two_walks l = length l.paths.now
