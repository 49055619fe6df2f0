use Rattle.log_laws.proofs.Drains.{drain-rests, drain-goes_on}
use Rattle.log_laws.proofs.passes_of_drains.Goals as goal

pub returns-clause-rests : goal.returns-clause-rests
returns-clause-rests c = drain-rests

pub returns-clause-goes_on : goal.returns-clause-goes_on
returns-clause-goes_on c = drain-goes_on
