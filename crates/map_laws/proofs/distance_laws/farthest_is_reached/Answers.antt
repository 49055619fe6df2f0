use Rattle.map_laws.proofs.Distances.{farthest_is_reached}
use Rattle.map_laws.proofs.distance_laws.farthest_is_reached.Goals as goal

pub returns : goal.returns
returns c = farthest_is_reached
