use Rattle.injection_bounds.proofs.Settling.{settle-costs}
use Rattle.injection_bounds.proofs.injections.settle_costs.Goals as goal

pub returns : goal.returns
returns c = settle-costs
