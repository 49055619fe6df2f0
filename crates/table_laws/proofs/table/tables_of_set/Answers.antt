use Rattle.table_laws.proofs.Dependencies.{cables-are_history, tables-of_set, active-of_set, adopted-adoptable, links-of_epoch, parts-of_set}
use Rattle.table_laws.proofs.table.tables_of_set.Goals as goal

pub returns-clause-tables : goal.returns-clause-tables
returns-clause-tables c = tables-of_set

pub returns-clause-active : goal.returns-clause-active
returns-clause-active c = active-of_set

pub returns-clause-adopted : goal.returns-clause-adopted
returns-clause-adopted c = adopted-adoptable

pub returns-clause-epoch : goal.returns-clause-epoch
returns-clause-epoch c = links-of_epoch

pub returns-clause-parts : goal.returns-clause-parts
returns-clause-parts c = parts-of_set

pub returns-clause-cables : goal.returns-clause-cables
returns-clause-cables c = cables-are_history
