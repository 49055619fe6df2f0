use Rattle.message_laws.proofs.Worlds.{got-front, taken-come}
use Rattle.message_laws.proofs.order.messages_in_order.Goals as goal

pub returns-clause-front : goal.returns-clause-front
returns-clause-front c = got-front

pub returns-clause-taken : goal.returns-clause-taken
returns-clause-taken c = taken-come
