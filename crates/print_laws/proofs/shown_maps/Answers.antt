use Rattle.print_laws.proofs.Shown.{printed_maps_stand, complete_maps_are_one}
use Rattle.print_laws.proofs.shown_maps.Goals as goal

pub returns-clause-stand : goal.returns-clause-stand
returns-clause-stand c = printed_maps_stand

pub returns-clause-one : goal.returns-clause-one
returns-clause-one c = complete_maps_are_one
