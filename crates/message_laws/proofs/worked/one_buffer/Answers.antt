use Rattle.message_laws.proofs.Working.{buffer-provided, close-hands-back}
use Rattle.message_laws.proofs.worked.one_buffer.Goals as goal

pub returns-clause-provided : goal.returns-clause-provided
returns-clause-provided c = buffer-provided

pub returns-clause-closed : goal.returns-clause-closed
returns-clause-closed c = close-hands-back
