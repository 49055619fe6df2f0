use Rattle.world_laws.proofs.Reached.{drain-is_row, clear-is_row, settle-is_row}
use Rattle.world_laws.proofs.row.rows_of_events.Goals as goal

pub returns-clause-drain : goal.returns-clause-drain
returns-clause-drain c = drain-is_row

pub returns-clause-clear : goal.returns-clause-clear
returns-clause-clear c = clear-is_row

pub returns-clause-settle : goal.returns-clause-settle
returns-clause-settle c = settle-is_row
