use Rattle.table_laws.proofs.Travels.{channels-built, limbo-built, flipped-dropped}
use Rattle.table_laws.proofs.packet.packets_of_hosts.Goals as goal

pub returns-clause-channels : goal.returns-clause-channels
returns-clause-channels c = channels-built

pub returns-clause-limbo : goal.returns-clause-limbo
returns-clause-limbo c = limbo-built

pub returns-clause-flipped : goal.returns-clause-flipped
returns-clause-flipped c = flipped-dropped
