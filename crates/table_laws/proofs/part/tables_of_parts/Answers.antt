use Rattle.table_laws.proofs.Parts.{joined-whole, applied-table}
use Rattle.table_laws.proofs.part.tables_of_parts.Goals as goal

pub returns-clause-whole : goal.returns-clause-whole
returns-clause-whole c = joined-whole

pub returns-clause-part : goal.returns-clause-part
returns-clause-part c = applied-table
