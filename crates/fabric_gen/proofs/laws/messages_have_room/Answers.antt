use Rattle.fabric_gen.proofs.Messages.{has-room}
use Rattle.fabric_gen.proofs.laws.messages_have_room.Goals as goal

pub returns : goal.returns
returns c = has-room
