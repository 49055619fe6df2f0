use Rattle.install_laws.proofs.Installing.{missed-harmed, misses-cost}
use Rattle.install_laws.proofs.cause.missed_hosts.Goals as goal

pub returns-clause-harmed : goal.returns-clause-harmed
returns-clause-harmed c = missed-harmed

pub returns-clause-cost : goal.returns-clause-cost
returns-clause-cost c = misses-cost
