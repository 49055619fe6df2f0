use Rattle.promise_laws.proofs.Said.{script_maps_are_true, deep_maps_of_scripts_are_complete}
use Rattle.promise_laws.proofs.scripts.maps_of_scripts.Goals as goal

pub returns-clause-complete : goal.returns-clause-complete
returns-clause-complete c = script_maps_are_true

pub returns-clause-deep : goal.returns-clause-deep
returns-clause-deep c = deep_maps_of_scripts_are_complete
