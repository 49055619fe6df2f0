use Rattle.circ_ears.proofs.TwoWalks.{paths_have_two_walks}
use Rattle.circ_ears.proofs.Returns.{paths_have_returns}
use Rattle.circ_ears.proofs.laws.paths_have_return_walks.Goals as goal

pub returns-clause-walks : goal.returns-clause-walks
returns-clause-walks c = paths_have_two_walks

pub returns-clause-returns : goal.returns-clause-returns
returns-clause-returns c = paths_have_returns
