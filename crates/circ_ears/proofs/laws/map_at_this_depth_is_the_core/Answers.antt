use Rattle.circ_ears.proofs.Taken.{map_at_this_depth}
use Rattle.circ_ears.proofs.laws.map_at_this_depth_is_the_core.Goals as goal

pub returns : goal.returns
returns c = map_at_this_depth
