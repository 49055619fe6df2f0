use Rattle.std.proofs.Common.{◌≡◌, ◌<◌, ◌≤◌, false, nat_lt, Some, length, sym, ap, ◌∙◌, arith}
use Rattle.std.specs.Prelude.{slice_get}
use Rattle.std.proofs.lemmas.Bool.{ltb-true}
use Rattle.std.proofs.lemmas.Bool.Decides.{nat_tests}
use Rattle.std.proofs.lemmas.Option.{slice_get-get_or}
use Rattle.net_defs.specs.declared.route.Route.{Route}
use Rattle.port_graph.specs.Routes.{walk_of, walk_at}
use Rattle.port_graph.proofs.Routing.{past-end}
use Rattle.port_graph.proofs.routes.RouteSet.route.Goals as goal

pub returns-in-Some : goal.returns-in-Some
returns-in-Some c =
    let k = c.place_of.result in
    let r : Route = c.in-Some.r.now in
    let lt : k < length c.deref.result.now = ltb-true k (length c.deref.result.now) (sym c.in-Some.ensures.lookup.0) in
    let at : slice_get c.deref.result.now k ≡ Some r = slice_get-get_or c.deref.result.now k r lt ∙ ap Some (sym c.in-Some.ensures.lookup.1) in
    let same : c.deref.result.now ≡ c.deref-2.result.now = c.deref.ensures.value ∙ sym c.deref-2.ensures.value in
    c.walk_if.ensures
    ∙ ap (λ o. walk_at o c.args.from c.args.to) (sym at ∙ ap (λ l. slice_get l k) same)
    ∙ sym c.place_of.ensures
    ∙ ap (λ l. walk_of l c.args.from c.args.to) (c.deref-2.ensures.value ∙ c.self.view_is)

pub returns-in-None : goal.returns-in-None
returns-in-None c =
    let k = c.place_of.result in
    let test : nat_lt k (length c.deref.result.now) ≡ false = sym c.in-None.ensures.lookup.0 in
    let le : length c.deref.result.now ≤ k = grind (arith, nat_tests) in
    let same : c.deref.result.now ≡ c.deref-2.result.now = c.deref.ensures.value ∙ sym c.deref-2.ensures.value in
    ap (λ o. walk_at o c.args.from c.args.to) (sym (past-end c.deref.result.now k le) ∙ ap (λ l. slice_get l k) same)
    ∙ sym c.place_of.ensures
    ∙ ap (λ l. walk_of l c.args.from c.args.to) (c.deref-2.ensures.value ∙ c.self.view_is)
