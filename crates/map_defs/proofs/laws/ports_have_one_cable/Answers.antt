-- ports and cables
use Rattle.map_defs.proofs.Ports.{far_is_cabled}
use Rattle.map_defs.proofs.laws.ports_have_one_cable.Goals as goal

pub returns : goal.returns
returns c = far_is_cabled
