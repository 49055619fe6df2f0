use Rattle.gm_defs.proofs.Takers.{two-cases}
use Rattle.gm_defs.proofs.laws.fragments_at_ports.Goals as goal

pub returns : goal.returns
returns c = two-cases
