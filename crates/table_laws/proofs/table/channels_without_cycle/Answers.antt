use Rattle.table_laws.proofs.Dependencies.{installed-no_cycle}
use Rattle.table_laws.proofs.table.channels_without_cycle.Goals as goal

pub returns : goal.returns
returns c = record { no_cycle = installed-no_cycle }
