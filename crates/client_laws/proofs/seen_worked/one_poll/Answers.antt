use Rattle.client_laws.proofs.SeenWorking.{message-polled}
use Rattle.client_laws.proofs.seen_worked.one_poll.Goals as goal

pub returns : goal.returns
returns c = message-polled
