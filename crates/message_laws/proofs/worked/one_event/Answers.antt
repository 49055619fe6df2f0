use Rattle.message_laws.proofs.Working.{message-received, buffer-returned}
use Rattle.message_laws.proofs.worked.one_event.Goals as goal

pub returns-clause-received : goal.returns-clause-received
returns-clause-received c = message-received

pub returns-clause-returned : goal.returns-clause-returned
returns-clause-returned c = buffer-returned
