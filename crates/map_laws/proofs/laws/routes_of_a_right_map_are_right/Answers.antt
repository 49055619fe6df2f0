-- a right map's set of routes
use Rattle.map_laws.proofs.RightRoutes.{routes_of_a_right_map_are_right}
use Rattle.map_laws.proofs.laws.routes_of_a_right_map_are_right.Goals as goal

pub returns : goal.returns
returns c = routes_of_a_right_map_are_right
