use Rattle.promise_laws.proofs.OneAction.{acts_are_one_action}
use Rattle.promise_laws.proofs.command_acts.acts_of_one_actor.Goals as goal

pub returns : goal.returns
returns c = acts_are_one_action
