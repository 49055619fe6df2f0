use Rattle.gen_laws.proofs.GeneratedRun.{generated-six}
use Rattle.gen_laws.proofs.six_lines.generated_runs.Goals as goal

pub returns : goal.returns
returns c = λ hosts seed out last two few run. generated-six hosts seed two few run
