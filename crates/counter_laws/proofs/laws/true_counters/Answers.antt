use Rattle.counter_laws.proofs.Summing.{counters-true}
use Rattle.counter_laws.proofs.laws.true_counters.Goals as goal

pub returns : goal.returns
returns c = counters-true
