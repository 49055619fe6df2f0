use Rattle.run_laws.proofs.SettleLines.{line-true}
use Rattle.run_laws.proofs.settle_lines.settled_lines.Goals as goal

pub returns : goal.returns
returns c = line-true
