use Rattle.fabric_run.proofs.Lefts.{injections-left}
use Rattle.fabric_run.proofs.promise.left_injections.Goals as goal

pub returns : goal.returns
returns c = injections-left
