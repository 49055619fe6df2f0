-- sameness of port graphs, at maps and at a mapper's part
use Rattle.map_defs.proofs.Sameness.{sameness_is_equivalence, same_map_is_right}
use Rattle.map_defs.proofs.laws.sameness_is_an_equivalence.Goals as goal

pub returns-clause-equivalence : goal.returns-clause-equivalence
returns-clause-equivalence c = sameness_is_equivalence

pub returns-clause-right : goal.returns-clause-right
returns-clause-right c = same_map_is_right
