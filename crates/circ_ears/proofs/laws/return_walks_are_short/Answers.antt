use Rattle.circ_ears.proofs.Taken.{return_walks_short}
use Rattle.circ_ears.proofs.laws.return_walks_are_short.Goals as goal

pub returns : goal.returns
returns c = return_walks_short
