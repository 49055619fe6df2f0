use Rattle.promise_laws.proofs.Moments.{reached_worlds_are_right}
use Rattle.promise_laws.proofs.promises.right_worlds.Goals as goal

pub returns : goal.returns
returns c = reached_worlds_are_right
