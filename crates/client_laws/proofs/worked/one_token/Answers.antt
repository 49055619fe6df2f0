use Rattle.client_laws.proofs.Working.{token-noted}
use Rattle.client_laws.proofs.worked.one_token.Goals as goal

pub returns : goal.returns
returns c = token-noted
