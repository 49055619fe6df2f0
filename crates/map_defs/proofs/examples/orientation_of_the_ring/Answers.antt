-- the ring is connected
use Rattle.std.proofs.Common.{refl}
use Rattle.map_defs.specs.Examples.{ring_map}
use Rattle.map_defs.proofs.Levels.{connected-by}
use Rattle.map_defs.proofs.examples.orientation_of_the_ring.Goals as goal

pub returns-clause-connected : goal.returns-clause-connected
returns-clause-connected c = connected-by ring_map refl
