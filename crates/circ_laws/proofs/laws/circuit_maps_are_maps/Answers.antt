use Rattle.circ_laws.proofs.Ruled.{circuit_map_is_map}
use Rattle.circ_laws.proofs.laws.circuit_maps_are_maps.Goals as goal

pub returns : goal.returns
returns c = circuit_map_is_map
