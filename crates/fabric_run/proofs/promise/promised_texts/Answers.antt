use Rattle.fabric_run.proofs.Promises.{text_promised}
use Rattle.fabric_run.proofs.promise.promised_texts.Goals as goal

pub returns : goal.returns
returns c = text_promised
