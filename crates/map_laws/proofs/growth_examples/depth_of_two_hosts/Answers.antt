-- the law on a fabric whose journal is written out
use Rattle.map_laws.proofs.Shallow.{two_hosts_hosts, two_hosts_end, two_hosts_deeper}
use Rattle.map_laws.proofs.growth_examples.depth_of_two_hosts.Goals as goal

pub returns-clause-hosts : goal.returns-clause-hosts
returns-clause-hosts c = two_hosts_hosts

pub returns-clause-closed : goal.returns-clause-closed
returns-clause-closed c = two_hosts_end

pub returns-clause-deeper : goal.returns-clause-deeper
returns-clause-deeper c = two_hosts_deeper
