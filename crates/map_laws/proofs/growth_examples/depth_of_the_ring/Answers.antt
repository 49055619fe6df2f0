-- the laws on the ring, and the line that its journal to depth 4 is true of
use Rattle.map_laws.proofs.Rings.{lonely_ring_closes, lonely_ring_open}
use Rattle.map_laws.proofs.growth_examples.depth_of_the_ring.Goals as goal

pub returns-clause-closed : goal.returns-clause-closed
returns-clause-closed c = lonely_ring_closes

pub returns-clause-not_closed : goal.returns-clause-not_closed
returns-clause-not_closed c = lonely_ring_open
