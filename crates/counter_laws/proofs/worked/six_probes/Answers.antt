use Rattle.counter_laws.proofs.Working.{six-counted, six-in_counters, pulled-counted}
use Rattle.counter_laws.proofs.worked.six_probes.Goals as goal

pub returns-clause-kinds : goal.returns-clause-kinds
returns-clause-kinds c = six-counted

pub returns-clause-counters : goal.returns-clause-counters
returns-clause-counters c = six-in_counters

pub returns-clause-pulled : goal.returns-clause-pulled
returns-clause-pulled c = pulled-counted
