use Rattle.gm_defs.proofs.Sizes.{size-least}
use Rattle.gm_defs.proofs.laws.sizes_are_least.Goals as goal

pub returns-clause-least : goal.returns-clause-least
returns-clause-least c = size-least
