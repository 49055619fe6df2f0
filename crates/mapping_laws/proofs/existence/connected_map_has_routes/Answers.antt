use Rattle.mapping_laws.proofs.Routes.{routes_exist}
use Rattle.mapping_laws.proofs.existence.connected_map_has_routes.Goals as goal

pub returns : goal.returns
returns c = routes_exist
