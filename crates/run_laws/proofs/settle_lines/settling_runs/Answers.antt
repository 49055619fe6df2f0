use Rattle.run_laws.proofs.SettleLines.{run-can_settle}
use Rattle.run_laws.proofs.settle_lines.settling_runs.Goals as goal

pub returns : goal.returns
returns c = run-can_settle
