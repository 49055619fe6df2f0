use Rattle.world_laws.proofs.Shapes.{step-kept, after_all-kept, new-senders, adopted-senders, planned-senders}
use Rattle.world_laws.proofs.shape.kept_senders.Goals as goal

pub returns-clause-new : goal.returns-clause-new
returns-clause-new c = new-senders

pub returns-clause-event : goal.returns-clause-event
returns-clause-event c = λ w e. (step-kept w e).senders

pub returns-clause-events : goal.returns-clause-events
returns-clause-events c = λ w es. (after_all-kept w es).senders

pub returns-clause-adoption : goal.returns-clause-adoption
returns-clause-adoption c = adopted-senders

pub returns-clause-plan : goal.returns-clause-plan
returns-clause-plan c = planned-senders
