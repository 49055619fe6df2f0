use Rattle.promise_laws.proofs.Said.{script_is_reached, script_has_no_cycle}
use Rattle.promise_laws.proofs.scripts.acts_of_scripts.Goals as goal

pub returns-clause-reached : goal.returns-clause-reached
returns-clause-reached c = script_is_reached

pub returns-clause-no_cycle : goal.returns-clause-no_cycle
returns-clause-no_cycle c = script_has_no_cycle
