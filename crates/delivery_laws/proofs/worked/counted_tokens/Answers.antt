use Rattle.delivery_laws.proofs.Working.{tokens-counted}
use Rattle.delivery_laws.proofs.worked.counted_tokens.Goals as goal

pub returns : goal.returns
returns c = tokens-counted
