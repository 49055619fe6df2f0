use Rattle.promise_laws.proofs.Working.{message-in_lines}
use Rattle.promise_laws.proofs.worked.message_in_lines.Goals as goal

pub returns : goal.returns
returns c = message-in_lines
