use Rattle.promise_laws.proofs.Pulls.{pull_line-true}
use Rattle.promise_laws.proofs.cable_lines.pull_lines.Goals as goal

pub returns : goal.returns
returns c = pull_line-true
