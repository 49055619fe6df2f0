use Rattle.run_laws.proofs.OneMapping.{mapping_is_one}
use Rattle.run_laws.proofs.laws.one_mapping.Goals as goal

pub returns : goal.returns
returns c = mapping_is_one
