-- each ask is a turn of a node
use Rattle.map_laws.proofs.Few.{asks_are_few}
use Rattle.map_laws.proofs.growth.asks_are_few.Goals as goal

pub returns : goal.returns
returns c = asks_are_few
