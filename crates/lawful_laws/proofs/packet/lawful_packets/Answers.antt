use Rattle.lawful_laws.proofs.Lawful.{unflipped-lawful, unflipped-read}
use Rattle.lawful_laws.proofs.Flowing.{advance-lawful}
use Rattle.lawful_laws.proofs.packet.lawful_packets.Goals as goal

pub returns-clause-channels : goal.returns-clause-channels
returns-clause-channels c = unflipped-lawful

pub returns-clause-read : goal.returns-clause-read
returns-clause-read c = unflipped-read

pub returns-clause-advance : goal.returns-clause-advance
returns-clause-advance c = advance-lawful
