use Rattle.settle_laws.proofs.Flowing.{settle-ends_settled}
use Rattle.settle_laws.proofs.settled.settled_settles.Goals as goal

pub returns : goal.returns
returns c = settle-ends_settled
