use Rattle.token_moves.proofs.Moves.{owned-new, owned-sending, owned-provided, owned-finished, owned-delivered}
use Rattle.token_moves.proofs.Moves.{owned-polled_sent, owned-polled_received}
use Rattle.token_moves.proofs.moves_keep_owners.Goals as goal

pub returns-clause-opening : goal.returns-clause-opening
returns-clause-opening c = owned-new

pub returns-clause-sending : goal.returns-clause-sending
returns-clause-sending c = owned-sending

pub returns-clause-providing : goal.returns-clause-providing
returns-clause-providing c = owned-provided

pub returns-clause-finishing : goal.returns-clause-finishing
returns-clause-finishing c = owned-finished

pub returns-clause-delivering : goal.returns-clause-delivering
returns-clause-delivering c = owned-delivered

pub returns-clause-polling_sent : goal.returns-clause-polling_sent
returns-clause-polling_sent c = owned-polled_sent

pub returns-clause-polling_received : goal.returns-clause-polling_received
returns-clause-polling_received c = owned-polled_received
