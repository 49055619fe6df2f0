use Rattle.mapping_laws.proofs.Made.{deep_map_is_complete}
use Rattle.mapping_laws.proofs.mapping.deep_maps.Goals as goal

pub returns : goal.returns
returns c = deep_map_is_complete
