use Rattle.settle_laws.proofs.Working.{lost-can, lost-settled}
use Rattle.settle_laws.proofs.worked.one_lost_frame.Goals as goal

pub returns-clause-premise : goal.returns-clause-premise
returns-clause-premise c = lost-can

pub returns-clause-settled : goal.returns-clause-settled
returns-clause-settled c = lost-settled
