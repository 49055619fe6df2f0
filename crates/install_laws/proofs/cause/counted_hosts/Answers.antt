use Rattle.install_laws.proofs.Counting.{counts-most, counts-all, unharmed-all, tells-cause}
use Rattle.install_laws.proofs.Unplanned.{unplanned-all}
use Rattle.install_laws.proofs.cause.counted_hosts.Goals as goal

pub returns-clause-at_most : goal.returns-clause-at_most
returns-clause-at_most c = counts-most

pub returns-clause-acknowledged : goal.returns-clause-acknowledged
returns-clause-acknowledged c = counts-all

pub returns-clause-unharmed : goal.returns-clause-unharmed
returns-clause-unharmed c = unharmed-all

pub returns-clause-unplanned : goal.returns-clause-unplanned
returns-clause-unplanned c = unplanned-all

pub returns-clause-cause : goal.returns-clause-cause
returns-clause-cause c = tells-cause
