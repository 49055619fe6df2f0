use Rattle.message_laws.proofs.Matched.{queue-unfinished, each-once}
use Rattle.message_laws.proofs.queue.unfinished_sends.Goals as goal

pub returns-clause-queue : goal.returns-clause-queue
returns-clause-queue c = queue-unfinished

pub returns-clause-each : goal.returns-clause-each
returns-clause-each c = each-once
