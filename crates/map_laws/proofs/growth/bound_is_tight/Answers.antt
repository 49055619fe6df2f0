-- the loop
use Rattle.map_laws.proofs.Tight.{bound_is_tight}
use Rattle.map_laws.proofs.growth.bound_is_tight.Goals as goal

pub returns : goal.returns
returns c = bound_is_tight
