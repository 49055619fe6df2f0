use Rattle.message_laws.proofs.Arrivals.{received-messages}
use Rattle.message_laws.proofs.event.received_messages.Goals as goal

pub returns : goal.returns
returns c = record { messages = received-messages }
