use Rattle.run_laws.proofs.Ranked.{right_routes_are_adoptable}
use Rattle.run_laws.proofs.routes.adoptable_routes.Goals as goal

pub returns : goal.returns
returns c = right_routes_are_adoptable
