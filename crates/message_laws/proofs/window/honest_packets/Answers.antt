use Rattle.message_laws.proofs.Honest.{traffic-honest}
use Rattle.message_laws.proofs.window.honest_packets.Goals as goal

pub returns : goal.returns
returns c = record { honest = traffic-honest }
