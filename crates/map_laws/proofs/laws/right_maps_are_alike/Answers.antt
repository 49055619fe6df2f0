-- maps that are a part of a fabric
use Rattle.map_laws.proofs.Size.{right_map_is_no_larger}
use Rattle.map_laws.proofs.Alike.{right_maps_are_same, marks_do_not_matter}
use Rattle.map_laws.proofs.Marked.{marked_map_is_map}
use Rattle.map_laws.proofs.laws.right_maps_are_alike.Goals as goal

pub returns-clause-no_larger : goal.returns-clause-no_larger
returns-clause-no_larger c = right_map_is_no_larger

pub returns-clause-same : goal.returns-clause-same
returns-clause-same c = right_maps_are_same

pub returns-clause-marks : goal.returns-clause-marks
returns-clause-marks c = marks_do_not_matter

pub returns-clause-marked : goal.returns-clause-marked
returns-clause-marked c = marked_map_is_map
