use Rattle.gm_tokens.proofs.Minting.{tokens-are_all}
use Rattle.gm_tokens.proofs.laws.minted_are_all.Goals as goal

pub returns : goal.returns
returns c = tokens-are_all
