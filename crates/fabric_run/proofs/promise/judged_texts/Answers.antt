use Rattle.fabric_run.proofs.Reports.{text_judged}
use Rattle.fabric_run.proofs.promise.judged_texts.Goals as goal

pub returns : goal.returns
returns c = text_judged
