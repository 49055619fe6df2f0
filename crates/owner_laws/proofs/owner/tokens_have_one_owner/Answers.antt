use Rattle.owner_laws.proofs.Owners.{always-owned}
use Rattle.owner_laws.proofs.owner.tokens_have_one_owner.Goals as goal

pub returns : goal.returns
returns c = record { one_owner = always-owned }
