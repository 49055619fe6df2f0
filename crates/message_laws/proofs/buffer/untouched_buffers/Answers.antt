use Rattle.message_laws.proofs.Buffers.{provided-untouched, closed-untouched}
use Rattle.message_laws.proofs.buffer.untouched_buffers.Goals as goal

pub returns-clause-provided : goal.returns-clause-provided
returns-clause-provided c = provided-untouched

pub returns-clause-closed : goal.returns-clause-closed
returns-clause-closed c = closed-untouched
