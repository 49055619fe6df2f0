use Rattle.circ_laws.proofs.TwoHosts.{two_hosts_tree, two_hosts_circuit, two_hosts_core}
use Rattle.circ_laws.proofs.examples.circuit_map_of_two_hosts.Goals as goal

pub returns-clause-tree : goal.returns-clause-tree
returns-clause-tree c = two_hosts_tree

pub returns-clause-map : goal.returns-clause-map
returns-clause-map c = two_hosts_circuit

pub returns-clause-core : goal.returns-clause-core
returns-clause-core c = two_hosts_core
