use Rattle.mapping_laws.proofs.Trees.{tree_exists}
use Rattle.mapping_laws.proofs.Without.{circuit_map_exists, without_outside_exists}
use Rattle.mapping_laws.proofs.existence.tree_has_a_circuit_map.Goals as goal

pub returns-clause-tree : goal.returns-clause-tree
returns-clause-tree c = tree_exists

pub returns-clause-without_outside : goal.returns-clause-without_outside
returns-clause-without_outside c = without_outside_exists

pub returns-clause-circuit_map : goal.returns-clause-circuit_map
returns-clause-circuit_map c = circuit_map_exists
