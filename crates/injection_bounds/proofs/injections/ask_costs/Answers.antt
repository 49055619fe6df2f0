use Rattle.injection_bounds.proofs.Asking.{ask-costs}
use Rattle.injection_bounds.proofs.injections.ask_costs.Goals as goal

pub returns : goal.returns
returns c = ask-costs
