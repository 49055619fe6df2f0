use Rattle.circ_laws.proofs.Found.{found_is_enough}
use Rattle.circ_laws.proofs.laws.found_entries_are_enough.Goals as goal

pub returns : goal.returns
returns c = found_is_enough
