use Rattle.world_laws.proofs.Idling.{step-idle}
use Rattle.world_laws.proofs.idle.idle_events.Goals as goal

pub returns-clause-cases : goal.returns-clause-cases
returns-clause-cases c = λ w e. ((step-idle w e).to, (step-idle w e).from)

pub returns-clause-still : goal.returns-clause-still
returns-clause-still c = λ w e. (step-idle w e).still
