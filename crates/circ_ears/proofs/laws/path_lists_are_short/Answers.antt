use Rattle.circ_ears.proofs.Once.{core_path_lists_are_short}
use Rattle.circ_ears.proofs.Short as short
use Rattle.circ_ears.proofs.laws.path_lists_are_short.Goals as goal

pub returns-clause-list : goal.returns-clause-list
returns-clause-list c = short.path_lists_are_short

pub returns-clause-core : goal.returns-clause-core
returns-clause-core c = core_path_lists_are_short
