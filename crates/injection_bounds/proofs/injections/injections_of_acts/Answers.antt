use Rattle.injection_bounds.proofs.Acting.{acts-pay}
use Rattle.injection_bounds.proofs.injections.injections_of_acts.Goals as goal

pub returns : goal.returns
returns c = acts-pay
