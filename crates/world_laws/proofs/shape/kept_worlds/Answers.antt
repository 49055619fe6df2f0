use Rattle.world_laws.proofs.Shapes.{step-kept, after_all-kept, new-world, adopted-world, planned-world}
use Rattle.world_laws.proofs.shape.kept_worlds.Goals as goal

pub returns-clause-new : goal.returns-clause-new
returns-clause-new c = new-world

pub returns-clause-event : goal.returns-clause-event
returns-clause-event c = λ w e. (step-kept w e).world

pub returns-clause-events : goal.returns-clause-events
returns-clause-events c = λ w es. (after_all-kept w es).world

pub returns-clause-adoption : goal.returns-clause-adoption
returns-clause-adoption c = adopted-world

pub returns-clause-plan : goal.returns-clause-plan
returns-clause-plan c = planned-world
