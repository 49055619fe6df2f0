use Rattle.promise_laws.proofs.ReceivedLines.{runs-receive_as_sent}
use Rattle.promise_laws.proofs.received_lines.lines_of_messages.Goals as goal

pub returns : goal.returns
returns c = runs-receive_as_sent
