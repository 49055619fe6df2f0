use Rattle.std.proofs.Common.{Some, ap, ◌∙◌}
use Rattle.world_defs.specs.Table.{Adoption, route_of}
use Rattle.route_install.proofs.Cutting.{route-found}
use Rattle.adopted_routes.proofs.adopted.Adopted.route_to.Goals as goal

pub returns-in_ok-copied-in-Some : goal.returns-in_ok-copied-in-Some
returns-in_ok-copied-in-Some c =
    ap Some c.in_ok-copied-in-Some.ensures ∙ c.in-Some.ensures ∙ route-found c.self.inside.set c.self.inside.mapper c.args.dst ∙ ap (λ (a : Adoption). route_of a.routes a.mapper c.args.dst) c.self.view_is

pub returns-in-None : goal.returns-in-None
returns-in-None c =
    c.in-None.ensures ∙ route-found c.self.inside.set c.self.inside.mapper c.args.dst ∙ ap (λ (a : Adoption). route_of a.routes a.mapper c.args.dst) c.self.view_is
