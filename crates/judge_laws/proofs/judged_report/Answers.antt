use Rattle.judge_laws.proofs.Worked.{report-judged}
use Rattle.judge_laws.proofs.judged_report.Goals as goal

pub returns : goal.returns
returns c = report-judged
