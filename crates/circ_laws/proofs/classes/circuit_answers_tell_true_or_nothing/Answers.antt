use Rattle.circ_laws.proofs.Telling.{circuit_tells, circuit_merges}
use Rattle.circ_laws.proofs.classes.circuit_answers_tell_true_or_nothing.Goals as goal

pub returns-clause-told : goal.returns-clause-told
returns-clause-told c = circuit_tells

pub returns-clause-merged : goal.returns-clause-merged
returns-clause-merged c = circuit_merges
