use Rattle.message_laws.proofs.Growing.{messages-grow}
use Rattle.message_laws.proofs.order.messages_only_grow.Goals as goal

pub returns : goal.returns
returns c = messages-grow
