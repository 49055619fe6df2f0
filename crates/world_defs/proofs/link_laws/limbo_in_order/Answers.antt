use Rattle.world_defs.proofs.InOrder.{next_limbo-least, next_limbo-none, insert-last, lookup-order, remove-order}
use Rattle.world_defs.proofs.link_laws.limbo_in_order.Goals as goal

pub returns-clause-last : goal.returns-clause-last
returns-clause-last c = insert-last

pub returns-clause-found : goal.returns-clause-found
returns-clause-found c = lookup-order

pub returns-clause-taken : goal.returns-clause-taken
returns-clause-taken c = remove-order

pub returns-clause-next : goal.returns-clause-next
returns-clause-next c = next_limbo-least

pub returns-clause-no_next : goal.returns-clause-no_next
returns-clause-no_next c = next_limbo-none
