use Rattle.fabric_gen.proofs.Messages.{goes-on, one-sender}
use Rattle.fabric_gen.proofs.laws.messages_go_on.Goals as goal

pub returns : goal.returns
returns c = record { elsewhere = goes-on; apart = one-sender }
