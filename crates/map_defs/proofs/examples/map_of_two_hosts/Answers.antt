-- the quotient of the journal, and the map counted from another port
use Rattle.map_defs.proofs.TwoHosts.{two_hosts_quotient}
use Rattle.map_defs.proofs.Moved.{moved_is_same}
use Rattle.map_defs.proofs.examples.map_of_two_hosts.Goals as goal

pub returns-clause-quotient : goal.returns-clause-quotient
returns-clause-quotient c = two_hosts_quotient

pub returns-clause-same : goal.returns-clause-same
returns-clause-same c = moved_is_same
