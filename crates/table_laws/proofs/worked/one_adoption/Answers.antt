use Rattle.table_laws.proofs.TwoHosts.{adopted-reached, one-active}
use Rattle.table_laws.proofs.worked.one_adoption.Goals as goal

pub returns-clause-reached : goal.returns-clause-reached
returns-clause-reached c = adopted-reached

pub returns-clause-active : goal.returns-clause-active
returns-clause-active c = one-active
