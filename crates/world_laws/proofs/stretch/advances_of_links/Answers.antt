use Rattle.world_laws.proofs.Draining.{advance-links}
use Rattle.world_laws.proofs.stretch.advances_of_links.Goals as goal

pub returns : goal.returns
returns c = advance-links
