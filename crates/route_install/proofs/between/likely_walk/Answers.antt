use Rattle.std.proofs.Common.{◌≡◌, ◌<◌, nat_lt, Some, length, sym, ap, subst, ◌∙◌}
use Rattle.std.specs.Prelude.{slice_get, IfSome}
use Rattle.std.proofs.lemmas.Bool.{ltb-true}
use Rattle.std.proofs.lemmas.Option.{slice_get-get_or}
use Rattle.net_defs.specs.declared.route.Route.{Route}
use Rattle.port_graph.specs.Routes.{walk_of}
use Rattle.route_install.proofs.Likely.{likely-found}
use Rattle.route_install.proofs.between.likely_walk.Goals as goal

pub returns-in-Some : goal.returns-in-Some
returns-in-Some c =
    let rs = c.args.routes.now in
    let k = c.likely_place.result in
    let r : Route = c.in-Some.r.now in
    let lt : k < length rs = ltb-true k (length rs) (sym c.in-Some.ensures.lookup.0) in
    let at : slice_get rs k ≡ Some r = slice_get-get_or rs k r lt ∙ ap Some (sym c.in-Some.ensures.lookup.1) in
    subst (λ o. IfSome o (λ w. walk_of rs c.args.from c.args.to ≡ Some w)) (sym c.walk_if.ensures) (likely-found rs c.args.from c.args.to k r c.requires at)
