use Rattle.map_laws.proofs.Distances.{host_distance_is_reached}
use Rattle.map_laws.proofs.distance_laws.host_distance_is_reached.Goals as goal

pub returns : goal.returns
returns c = host_distance_is_reached
