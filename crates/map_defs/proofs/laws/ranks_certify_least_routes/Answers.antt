-- ranks that rise along every least legal route
use Rattle.map_defs.proofs.Certifying.{ranks_certify}
use Rattle.map_defs.proofs.laws.ranks_certify_least_routes.Goals as goal

pub returns : goal.returns
returns c = ranks_certify
