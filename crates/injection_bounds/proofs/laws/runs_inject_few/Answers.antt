use Rattle.injection_bounds.proofs.Running.{runs-inject-few}
use Rattle.injection_bounds.proofs.laws.runs_inject_few.Goals as goal

pub returns : goal.returns
returns c = runs-inject-few
