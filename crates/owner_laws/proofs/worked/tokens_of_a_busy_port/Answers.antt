use Rattle.owner_laws.proofs.Busy.{port-has, client-has}
use Rattle.owner_laws.proofs.worked.tokens_of_a_busy_port.Goals as goal

pub returns-clause-port : goal.returns-clause-port
returns-clause-port c = port-has

pub returns-clause-client : goal.returns-clause-client
returns-clause-client c = client-has
