use Rattle.message_laws.proofs.Working.{message-reached, message-came}
use Rattle.message_laws.proofs.worked.one_message.Goals as goal

pub returns-clause-reached : goal.returns-clause-reached
returns-clause-reached c = message-reached

pub returns-clause-came : goal.returns-clause-came
returns-clause-came c = message-came
