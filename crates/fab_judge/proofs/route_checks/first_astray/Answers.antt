use Rattle.std.proofs.Common.{◌≡◌, ◌<◌, ◌+◌, length, drop, if◌then◌else◌, Some, sym, ap, ◌∙◌}
use Rattle.std.proofs.lemmas.List.{at_drop_more}
use Rattle.net_defs.specs.declared.route.Route.{Route}
use Rattle.fab_judge.specs.Checks.{leads_between, astray_from}
use Rattle.fab_judge.proofs.route_checks.first_astray.Goals as goal

pub returns-then-not-leads_between-clause-first : goal.returns-then-not-leads_between-clause-first
returns-then-not-leads_between-clause-first c =
    let m = c.args.map.now in
    let rs = c.args.routes.now in
    let i = c.loop-place.place in
    let r : Route = c.index-routes-place.result in
    let more = astray_from m (i + 1) (drop (i + 1) rs) in
    let lt : i < length rs = c.loop-place-test.true in
    let step : astray_from m i (drop i rs) ≡ (if leads_between m r then more else Some i) =
    at_drop_more (astray_from m i) rs i r lt ∙ ap (λ x. if leads_between m x then more else Some i) (sym c.index-routes-place.is) in
    sym (ap (λ b. if b then more else Some i) (sym c.leads_between.ensures ∙ c.if-not-leads_between.true)) ∙ sym step ∙ c.loop-place.invariant

pub loop-place-preserved : goal.loop-place-preserved
loop-place-preserved c =
    let m = c.args.map.now in
    let rs = c.args.routes.now in
    let i = c.loop-place.place in
    let r : Route = c.index-routes-place.result in
    let more = astray_from m (i + 1) (drop (i + 1) rs) in
    let lt : i < length rs = c.loop-place-test.true in
    let step : astray_from m i (drop i rs) ≡ (if leads_between m r then more else Some i) =
    at_drop_more (astray_from m i) rs i r lt ∙ ap (λ x. if leads_between m x then more else Some i) (sym c.index-routes-place.is) in
    sym (ap (λ b. if b then more else Some i) (sym c.leads_between.ensures ∙ c.if-not-leads_between.false)) ∙ sym step ∙ c.loop-place.invariant
