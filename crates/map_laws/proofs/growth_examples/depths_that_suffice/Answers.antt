-- the laws on the worked fabrics
use Rattle.std.proofs.Common.{refl}
use Rattle.map_laws.proofs.Rings.{ring_of_four_closes, line_closes, parallel_closes, self_cabled_closes}
use Rattle.map_laws.proofs.growth_examples.depths_that_suffice.Goals as goal

pub returns-clause-ring_with_hosts : goal.returns-clause-ring_with_hosts
returns-clause-ring_with_hosts c = (refl, ring_of_four_closes)

pub returns-clause-in_a_line : goal.returns-clause-in_a_line
returns-clause-in_a_line c = (refl, line_closes)

pub returns-clause-two_cables : goal.returns-clause-two_cables
returns-clause-two_cables c = (refl, parallel_closes)

pub returns-clause-self_cabled_switch : goal.returns-clause-self_cabled_switch
returns-clause-self_cabled_switch c = (refl, self_cabled_closes)
