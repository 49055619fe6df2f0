use Rattle.mapping_laws.proofs.Sessions.{run_keeps_world}
use Rattle.mapping_laws.proofs.running.kept_by_runs.Goals as goal

pub returns : goal.returns
returns c = run_keeps_world
