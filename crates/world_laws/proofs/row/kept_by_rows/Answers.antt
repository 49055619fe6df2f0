use Rattle.world_laws.proofs.Reached.{drain-cables, clear-cables, drain-kept, clear-kept, settle-kept}
use Rattle.world_laws.proofs.row.kept_by_rows.Goals as goal

pub returns-clause-drain_cables : goal.returns-clause-drain_cables
returns-clause-drain_cables c = drain-cables

pub returns-clause-clear_cables : goal.returns-clause-clear_cables
returns-clause-clear_cables c = clear-cables

pub returns-clause-drain : goal.returns-clause-drain
returns-clause-drain c = drain-kept

pub returns-clause-clear : goal.returns-clause-clear
returns-clause-clear c = clear-kept

pub returns-clause-settle : goal.returns-clause-settle
returns-clause-settle c = settle-kept
