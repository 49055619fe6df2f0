use Rattle.settle_laws.proofs.Working.{bare-can, bare-waits}
use Rattle.settle_laws.proofs.worked.no_token_waits.Goals as goal

pub returns-clause-premise : goal.returns-clause-premise
returns-clause-premise c = bare-can

pub returns-clause-settled : goal.returns-clause-settled
returns-clause-settled c = bare-waits
