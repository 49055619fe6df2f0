use Rattle.injection_bounds.proofs.Acting.{acts-paid}
use Rattle.injection_bounds.proofs.injections.paid_injections.Goals as goal

pub returns : goal.returns
returns c = acts-paid
