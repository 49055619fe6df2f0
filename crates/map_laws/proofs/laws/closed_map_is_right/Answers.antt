-- the certificate
use Rattle.map_laws.proofs.Assembly.{closed_map_is_right}
use Rattle.map_laws.proofs.laws.closed_map_is_right.Goals as goal

pub returns : goal.returns
returns c = closed_map_is_right
