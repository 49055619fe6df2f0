use Rattle.world_defs.proofs.Idling.{put-refused, lose-idle, repeat-idle, hold-idle, flip-idle, replay-idle, pull-idle, plug-idle}
use Rattle.world_defs.proofs.link_laws.idle_steps.Goals as goal

pub returns-clause-put : goal.returns-clause-put
returns-clause-put c = put-refused

pub returns-clause-lose : goal.returns-clause-lose
returns-clause-lose c = lose-idle

pub returns-clause-reset : goal.returns-clause-reset
returns-clause-reset c = lose-idle

pub returns-clause-repeat : goal.returns-clause-repeat
returns-clause-repeat c = repeat-idle

pub returns-clause-hold : goal.returns-clause-hold
returns-clause-hold c = hold-idle

pub returns-clause-flip : goal.returns-clause-flip
returns-clause-flip c = flip-idle

pub returns-clause-replay : goal.returns-clause-replay
returns-clause-replay c = replay-idle

pub returns-clause-pull : goal.returns-clause-pull
returns-clause-pull c = pull-idle

pub returns-clause-plug : goal.returns-clause-plug
returns-clause-plug c = plug-idle
