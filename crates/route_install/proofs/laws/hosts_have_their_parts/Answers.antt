use Rattle.route_install.proofs.Sets.{each-host}
use Rattle.route_install.proofs.laws.hosts_have_their_parts.Goals as goal

pub returns : goal.returns
returns c = each-host
