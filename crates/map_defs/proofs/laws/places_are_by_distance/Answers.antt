-- levels, and the places by them
use Rattle.map_defs.proofs.Levels.{levels_are_distances}
use Rattle.map_defs.proofs.Places.{places_are_an_order}
use Rattle.map_defs.proofs.laws.places_are_by_distance.Goals as goal

pub returns-clause-levels : goal.returns-clause-levels
returns-clause-levels c = levels_are_distances

pub returns-clause-places : goal.returns-clause-places
returns-clause-places c = places_are_an_order
