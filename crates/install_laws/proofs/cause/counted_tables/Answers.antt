use Rattle.install_laws.proofs.Installing.{counted-tables}
use Rattle.install_laws.proofs.Counting.{counts-tables}
use Rattle.install_laws.proofs.cause.counted_tables.Goals as goal

pub returns-clause-tables : goal.returns-clause-tables
returns-clause-tables c = counted-tables

pub returns-clause-counts : goal.returns-clause-counts
returns-clause-counts c = counts-tables
