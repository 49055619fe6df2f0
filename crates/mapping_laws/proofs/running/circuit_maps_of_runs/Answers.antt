use Rattle.mapping_laws.proofs.Circuits.{circuit_is_told}
use Rattle.mapping_laws.proofs.Printed.{circuit_maps_are_true}
use Rattle.mapping_laws.proofs.running.circuit_maps_of_runs.Goals as goal

pub returns-clause-told : goal.returns-clause-told
returns-clause-told c = circuit_maps_are_true

pub returns-clause-always : goal.returns-clause-always
returns-clause-always c = circuit_is_told
