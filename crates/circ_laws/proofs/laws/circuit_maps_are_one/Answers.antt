use Rattle.circ_laws.proofs.OneTree.{tree_is_one}
use Rattle.circ_laws.proofs.OneCircuit.{circuit_map_is_one}
use Rattle.circ_laws.proofs.laws.circuit_maps_are_one.Goals as goal

pub returns-clause-tree : goal.returns-clause-tree
returns-clause-tree c = tree_is_one

pub returns-clause-map : goal.returns-clause-map
returns-clause-map c = circuit_map_is_one
