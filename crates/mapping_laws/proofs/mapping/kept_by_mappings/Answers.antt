use Rattle.mapping_laws.proofs.Made.{mapping_keeps}
use Rattle.mapping_laws.proofs.mapping.kept_by_mappings.Goals as goal

pub returns : goal.returns
returns c = mapping_keeps
