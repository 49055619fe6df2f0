use Rattle.circ_ears.proofs.Existing as existing
use Rattle.circ_ears.proofs.laws.path_lists_exist.Goals as goal

pub returns : goal.returns
returns c = existing.path_lists_exist
