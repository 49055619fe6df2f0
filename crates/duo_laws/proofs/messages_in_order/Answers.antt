use Rattle.duo_laws.proofs.Order.{got-prefix}
use Rattle.duo_laws.proofs.messages_in_order.Goals as goal

pub returns : goal.returns
returns c = got-prefix
