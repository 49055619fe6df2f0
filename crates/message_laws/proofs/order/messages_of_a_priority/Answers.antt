use Rattle.message_laws.proofs.Worlds.{sent-of_priority}
use Rattle.message_laws.proofs.order.messages_of_a_priority.Goals as goal

pub returns : goal.returns
returns c = record { sent = sent-of_priority }
