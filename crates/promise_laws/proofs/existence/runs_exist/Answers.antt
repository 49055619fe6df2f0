use Rattle.promise_laws.proofs.Running.{each_command_is_done, run_exists}
use Rattle.promise_laws.proofs.existence.runs_exist.Goals as goal

pub returns-clause-done : goal.returns-clause-done
returns-clause-done c = each_command_is_done

pub returns-clause-run : goal.returns-clause-run
returns-clause-run c = run_exists
