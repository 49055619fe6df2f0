use Rattle.lawful_laws.proofs.WorkedWorlds.{clears-begin}
use Rattle.lawful_laws.proofs.worked.clears_among_events.Goals as goal

pub returns : goal.returns
returns c = record { begin = clears-begin }
