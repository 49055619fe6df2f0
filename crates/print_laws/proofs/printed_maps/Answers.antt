use Rattle.print_laws.proofs.Pieces.{maps_of_runs_read_back, complete_maps_read_back, circuit_maps_read_back}
use Rattle.print_laws.proofs.printed_maps.Goals as goal

pub returns-clause-any : goal.returns-clause-any
returns-clause-any c = maps_of_runs_read_back

pub returns-clause-complete : goal.returns-clause-complete
returns-clause-complete c = complete_maps_read_back

pub returns-clause-circuit : goal.returns-clause-circuit
returns-clause-circuit c = circuit_maps_read_back
