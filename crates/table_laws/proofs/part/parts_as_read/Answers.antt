use Rattle.table_laws.proofs.Written.{part-read}
use Rattle.table_laws.proofs.part.parts_as_read.Goals as goal

pub returns : goal.returns
returns c = record { part = part-read }
