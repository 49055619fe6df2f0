use Rattle.world_laws.proofs.Counting.{step-counts}
use Rattle.world_laws.proofs.count.counts_of_events.Goals as goal

pub returns-clause-numbers : goal.returns-clause-numbers
returns-clause-numbers c = λ w e. (step-counts w e).numbered

pub returns-clause-injections : goal.returns-clause-injections
returns-clause-injections c = λ w e. (step-counts w e).injected

pub returns-clause-drops : goal.returns-clause-drops
returns-clause-drops c = λ w e. (step-counts w e).dropped

pub returns-clause-strikes : goal.returns-clause-strikes
returns-clause-strikes c = λ w e. (step-counts w e).struck
