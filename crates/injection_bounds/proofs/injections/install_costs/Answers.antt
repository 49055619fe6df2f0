use Rattle.injection_bounds.proofs.Asking.{install-costs}
use Rattle.injection_bounds.proofs.injections.install_costs.Goals as goal

pub returns : goal.returns
returns c = install-costs
