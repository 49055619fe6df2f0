use Rattle.mapping_laws.proofs.Made.{found_is_there, undrowned_is_true, made_map_is_connected, made_map_is_map, made_map_is_right}
use Rattle.mapping_laws.proofs.mapping.made_maps.Goals as goal

pub returns-clause-found : goal.returns-clause-found
returns-clause-found c = found_is_there

pub returns-clause-undrowned : goal.returns-clause-undrowned
returns-clause-undrowned c = undrowned_is_true

pub returns-clause-rules : goal.returns-clause-rules
returns-clause-rules c = made_map_is_map

pub returns-clause-complete : goal.returns-clause-complete
returns-clause-complete c = made_map_is_right

pub returns-clause-connected : goal.returns-clause-connected
returns-clause-connected c = made_map_is_connected
