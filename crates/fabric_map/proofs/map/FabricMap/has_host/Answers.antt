use Rattle.std.proofs.Common.{ap, ◌∙◌, is_some}
use Rattle.map_defs.specs.Routing.{is_host_named}
use Rattle.fabric_map.specs.Growing.{has_host}
use Rattle.fabric_map.proofs.Listings.{position-any}
use Rattle.fabric_map.proofs.map.FabricMap.has_host.Goals as goal

pub returns : goal.returns
returns c = c.is_some.ensures ∙ ap is_some c.find.ensures ∙ position-any (is_host_named c.args.h) c.self.inside.vertices.vertices ∙ ap (λ m. has_host m c.args.h) c.self.view_is
