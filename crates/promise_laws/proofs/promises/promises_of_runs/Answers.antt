use Rattle.promise_laws.proofs.Sound.{always_promised}
use Rattle.promise_laws.proofs.promises.promises_of_runs.Goals as goal

pub returns : goal.returns
returns c = always_promised
