use Rattle.message_laws.proofs.Working.{answered-reached, taken-ahead, answer-honest, all-acknowledged}
use Rattle.message_laws.proofs.worked.one_acknowledgement.Goals as goal

pub returns-clause-reached : goal.returns-clause-reached
returns-clause-reached c = answered-reached

pub returns-clause-ahead : goal.returns-clause-ahead
returns-clause-ahead c = taken-ahead

pub returns-clause-answer : goal.returns-clause-answer
returns-clause-answer c = answer-honest

pub returns-clause-all : goal.returns-clause-all
returns-clause-all c = all-acknowledged
