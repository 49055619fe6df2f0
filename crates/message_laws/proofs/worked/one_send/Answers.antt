use Rattle.message_laws.proofs.Working.{busy-reached, send-unfinished, send-finished}
use Rattle.message_laws.proofs.worked.one_send.Goals as goal

pub returns-clause-reached : goal.returns-clause-reached
returns-clause-reached c = busy-reached

pub returns-clause-unfinished : goal.returns-clause-unfinished
returns-clause-unfinished c = send-unfinished

pub returns-clause-finished : goal.returns-clause-finished
returns-clause-finished c = send-finished
