use Rattle.owner_laws.proofs.Busy.{opens-none}
use Rattle.owner_laws.proofs.worked.no_such_port.Goals as goal

pub returns : goal.returns
returns c = record { opens_none = opens-none }
