use Rattle.message_laws.proofs.Fillings.{coming-tied}
use Rattle.message_laws.proofs.filling.what_is_coming.Goals as goal

pub returns : goal.returns
returns c = coming-tied
