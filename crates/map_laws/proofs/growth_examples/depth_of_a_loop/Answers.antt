-- a journal that two fabrics share
use Rattle.map_laws.proofs.Tight.{looped_grown, looped_open}
use Rattle.map_laws.proofs.Rings.{looped_closes}
use Rattle.map_laws.proofs.growth_examples.depth_of_a_loop.Goals as goal

pub returns-clause-grown : goal.returns-clause-grown
returns-clause-grown c = looped_grown

pub returns-clause-not_closed : goal.returns-clause-not_closed
returns-clause-not_closed c = looped_open

pub returns-clause-closed_one_deeper : goal.returns-clause-closed_one_deeper
returns-clause-closed_one_deeper c = looped_closes
