use Rattle.message_laws.proofs.Taken.{acknowledged-got, none-got}
use Rattle.message_laws.proofs.Reaching.{settle-got}
use Rattle.message_laws.proofs.got.acknowledged_messages.Goals as goal

pub returns-clause-connection : goal.returns-clause-connection
returns-clause-connection c = acknowledged-got

pub returns-clause-all : goal.returns-clause-all
returns-clause-all c = none-got

pub returns-clause-settled : goal.returns-clause-settled
returns-clause-settled c = settle-got
