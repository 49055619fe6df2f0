use Rattle.run_laws.proofs.Reaching.{run_is_reached, run_has_no_cycle}
use Rattle.run_laws.proofs.acts.acts_of_runs.Goals as goal

pub returns-clause-reached : goal.returns-clause-reached
returns-clause-reached c = run_is_reached

pub returns-clause-no_cycle : goal.returns-clause-no_cycle
returns-clause-no_cycle c = run_has_no_cycle
