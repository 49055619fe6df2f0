-- the law on a fabric without switches
use Rattle.map_laws.proofs.Shallow.{one_cable_small, one_cable_end}
use Rattle.map_laws.proofs.growth_examples.depth_of_one_cable.Goals as goal

pub returns-clause-small : goal.returns-clause-small
returns-clause-small c = one_cable_small

pub returns-clause-closed : goal.returns-clause-closed
returns-clause-closed c = one_cable_end
