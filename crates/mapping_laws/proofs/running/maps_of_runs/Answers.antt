use Rattle.mapping_laws.proofs.Printed.{complete_maps_are_true, deep_maps_are_complete}
use Rattle.mapping_laws.proofs.running.maps_of_runs.Goals as goal

pub returns-clause-complete : goal.returns-clause-complete
returns-clause-complete c = complete_maps_are_true

pub returns-clause-deep : goal.returns-clause-deep
returns-clause-deep c = deep_maps_are_complete
