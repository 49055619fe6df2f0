use Rattle.gm_conn.proofs.Sent.{due-of-message}
use Rattle.gm_conn.proofs.laws.due_is_of_message.Goals as goal

pub returns : goal.returns
returns c = due-of-message
