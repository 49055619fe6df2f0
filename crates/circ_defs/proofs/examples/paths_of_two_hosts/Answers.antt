use Rattle.circ_defs.proofs.TwoHosts.{two_hosts_paths}
use Rattle.circ_defs.proofs.examples.paths_of_two_hosts.Goals as goal

pub returns-clause-paths : goal.returns-clause-paths
returns-clause-paths c = two_hosts_paths
