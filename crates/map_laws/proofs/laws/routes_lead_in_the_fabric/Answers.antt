-- where turns lead
use Rattle.map_laws.proofs.Landing.{routes_lead_in_the_fabric}
use Rattle.map_laws.proofs.laws.routes_lead_in_the_fabric.Goals as goal

pub returns : goal.returns
returns c = routes_lead_in_the_fabric
