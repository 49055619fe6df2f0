use Rattle.injection_bounds.proofs.Events.{act-costs}
use Rattle.injection_bounds.proofs.injections.act_costs.Goals as goal

pub returns : goal.returns
returns c = act-costs
