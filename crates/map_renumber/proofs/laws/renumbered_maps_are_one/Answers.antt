use Rattle.map_renumber.proofs.OneCanon.{canon_is_one, canon_stays}
use Rattle.map_renumber.proofs.laws.renumbered_maps_are_one.Goals as goal

pub returns-clause-one : goal.returns-clause-one
returns-clause-one c = canon_is_one

pub returns-clause-stays : goal.returns-clause-stays
returns-clause-stays c = canon_stays
