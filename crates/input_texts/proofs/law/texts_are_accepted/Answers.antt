use Rattle.input_texts.proofs.Accepting.{each-accepted}
use Rattle.input_texts.proofs.law.texts_are_accepted.Goals as goal

pub returns : goal.returns
returns c = each-accepted
