use Rattle.circ_laws.proofs.Assembly.{inside_is_core}
use Rattle.circ_laws.proofs.Numbering.{circuit_map_is_core}
use Rattle.circ_laws.proofs.laws.circuit_map_is_the_core.Goals as goal

pub returns-clause-inside : goal.returns-clause-inside
returns-clause-inside c = inside_is_core

pub returns-clause-whole : goal.returns-clause-whole
returns-clause-whole c = circuit_map_is_core
