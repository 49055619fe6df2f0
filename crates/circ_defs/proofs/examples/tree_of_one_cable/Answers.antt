use Rattle.circ_defs.proofs.OneCable.{one_cable_circuit, one_cable_whole, one_cable_growing, one_cable_ended}
use Rattle.circ_defs.proofs.examples.tree_of_one_cable.Goals as goal

pub returns-clause-circuit : goal.returns-clause-circuit
returns-clause-circuit c = one_cable_circuit

pub returns-clause-whole : goal.returns-clause-whole
returns-clause-whole c = one_cable_whole

pub returns-clause-growing : goal.returns-clause-growing
returns-clause-growing c = one_cable_growing

pub returns-clause-ended : goal.returns-clause-ended
returns-clause-ended c = one_cable_ended
