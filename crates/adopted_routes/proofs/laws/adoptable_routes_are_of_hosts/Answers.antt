use Rattle.adopted_routes.proofs.Sets.{set-of-hosts}
use Rattle.adopted_routes.proofs.laws.adoptable_routes_are_of_hosts.Goals as goal

pub returns : goal.returns
returns c = set-of-hosts
