use Rattle.promise_laws.proofs.Working.{epochs-follow}
use Rattle.promise_laws.proofs.worked.epochs_that_follow.Goals as goal

pub returns : goal.returns
returns c = epochs-follow
