-- the search for the next ask
use Rattle.map_laws.proofs.Next.{growth_goes_on_or_ends}
use Rattle.map_laws.proofs.growth.growth_goes_on_or_ends.Goals as goal

pub returns : goal.returns
returns c = growth_goes_on_or_ends
