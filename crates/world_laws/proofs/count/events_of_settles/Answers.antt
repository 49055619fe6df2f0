use Rattle.world_laws.proofs.Counting.{settle_event-raises}
use Rattle.world_laws.proofs.count.events_of_settles.Goals as goal

pub returns : goal.returns
returns c = settle_event-raises
