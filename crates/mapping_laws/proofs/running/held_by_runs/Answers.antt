use Rattle.mapping_laws.proofs.Holding.{run_holds_right}
use Rattle.mapping_laws.proofs.running.held_by_runs.Goals as goal

pub returns : goal.returns
returns c = run_holds_right
