use Rattle.promise_laws.proofs.Acting.{deeds_are_single_acts, acts_reach, runs_end_sound}
use Rattle.promise_laws.proofs.command_acts.acts_of_commands.Goals as goal

pub returns-clause-acts : goal.returns-clause-acts
returns-clause-acts c = deeds_are_single_acts

pub returns-clause-reach : goal.returns-clause-reach
returns-clause-reach c = acts_reach

pub returns-clause-ended : goal.returns-clause-ended
returns-clause-ended c = runs_end_sound
