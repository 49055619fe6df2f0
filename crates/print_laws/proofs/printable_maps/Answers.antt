use Rattle.print_laws.proofs.ReadAgain.{made_map_is_printable, circuit_map_is_printable, printable_is_read_again}
use Rattle.print_laws.proofs.printable_maps.Goals as goal

pub returns-clause-made : goal.returns-clause-made
returns-clause-made c = made_map_is_printable

pub returns-clause-read : goal.returns-clause-read
returns-clause-read c = printable_is_read_again

pub returns-clause-circuit : goal.returns-clause-circuit
returns-clause-circuit c = circuit_map_is_printable
