use Rattle.judge_laws.proofs.Judged.{reports_are_judged_yes}
use Rattle.judge_laws.proofs.TextReports.{texts_are_judged_yes}
use Rattle.judge_laws.proofs.judged_reports.Goals as goal

pub returns-clause-lines : goal.returns-clause-lines
returns-clause-lines c = reports_are_judged_yes

pub returns-clause-text : goal.returns-clause-text
returns-clause-text c = texts_are_judged_yes
