use Rattle.world_defs.proofs.Mappings.{mapping-read, mapping-written}
use Rattle.world_defs.proofs.body_laws.mapping_is_read.Goals as goal

pub returns-clause-read : goal.returns-clause-read
returns-clause-read c = mapping-read

pub returns-clause-written : goal.returns-clause-written
returns-clause-written c = mapping-written
