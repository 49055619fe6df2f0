use Rattle.print_laws.proofs.Routes.{printed_routes_are_right}
use Rattle.print_laws.proofs.printed_routes.Goals as goal

pub returns : goal.returns
returns c = printed_routes_are_right
