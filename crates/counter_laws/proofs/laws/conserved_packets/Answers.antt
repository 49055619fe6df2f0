use Rattle.counter_laws.proofs.Summing.{packets-conserved}
use Rattle.counter_laws.proofs.laws.conserved_packets.Goals as goal

pub returns : goal.returns
returns c = packets-conserved
