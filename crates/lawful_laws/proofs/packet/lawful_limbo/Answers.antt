use Rattle.lawful_laws.proofs.Lawful.{limbo-lawful, limbo-read}
use Rattle.lawful_laws.proofs.packet.lawful_limbo.Goals as goal

pub returns-clause-limbo : goal.returns-clause-limbo
returns-clause-limbo c = limbo-lawful

pub returns-clause-read : goal.returns-clause-read
returns-clause-read c = limbo-read
