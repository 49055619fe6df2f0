use Rattle.mapping_laws.proofs.Made.{doubtful_was_harmed}
use Rattle.mapping_laws.proofs.mapping.doubtful_maps.Goals as goal

pub returns : goal.returns
returns c = doubtful_was_harmed
