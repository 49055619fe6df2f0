use Rattle.delivery_laws.proofs.Enough.{lost-enough}
use Rattle.delivery_laws.proofs.worked.enough_tokens.Goals as goal

pub returns : goal.returns
returns c = lost-enough
