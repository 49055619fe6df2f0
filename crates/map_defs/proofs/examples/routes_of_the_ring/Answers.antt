-- no shorter and no lesser legal route leads from b to d; and so for each two hosts
use Rattle.map_defs.proofs.Certified.{b_to_d}
use Rattle.map_defs.proofs.RingRoutes.{ring_routes_are}
use Rattle.map_defs.proofs.examples.routes_of_the_ring.Goals as goal

pub returns-clause-least : goal.returns-clause-least
returns-clause-least c = b_to_d

pub returns-clause-all_routes : goal.returns-clause-all_routes
returns-clause-all_routes c = ring_routes_are
