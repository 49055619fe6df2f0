use Rattle.message_laws.proofs.Taken.{got-below}
use Rattle.message_laws.proofs.got.messages_below_taken.Goals as goal

pub returns : goal.returns
returns c = record { got = got-below }
