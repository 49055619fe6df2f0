use Rattle.promise_laws.proofs.RunActs.{runs_are_their_acts, acts_of_runs_are_one}
use Rattle.promise_laws.proofs.command_acts.acts_of_all_commands.Goals as goal

pub returns-clause-lead : goal.returns-clause-lead
returns-clause-lead c = runs_are_their_acts

pub returns-clause-one : goal.returns-clause-one
returns-clause-one c = acts_of_runs_are_one
