use Rattle.install_laws.proofs.Epochs.{adopted-unrevoked}
use Rattle.table_installing.proofs.Adoptions.{adopted-unchanged, adopted-installable}
use Rattle.table_installing.proofs.laws.unrevoked_adoptions.Goals as goal

pub returns-clause-unrevoked : goal.returns-clause-unrevoked
returns-clause-unrevoked c = adopted-unrevoked

pub returns-clause-unchanged : goal.returns-clause-unchanged
returns-clause-unchanged c = adopted-unchanged

pub returns-clause-installable : goal.returns-clause-installable
returns-clause-installable c = adopted-installable
