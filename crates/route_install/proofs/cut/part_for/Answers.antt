use Rattle.std.proofs.Common.{◌≡◌, ◌<◌, List, Some, length, map, nat_eq, ap, sym, subst, ◌∙◌, arith, ◌≤◌}
use Rattle.std.specs.List.{filter}
use Rattle.std.proofs.lemmas.List.{length-map}
use Rattle.net_defs.specs.RouteSet.{AreRising}
use Rattle.net_defs.specs.declared.route.Route.{Route}
use Rattle.world_defs.specs.Mapping.{RouteEntry, is_part}
use Rattle.world_defs.specs.Table.{Adoption, entries_from, part_count}
use Rattle.route_install.proofs.Cutting.{entry, part-none, part-some, route-found}
use Rattle.route_install.proofs.Ruled.{cut-ruled}
use Rattle.route_install.proofs.cut.part_for.Goals as goal

pub returns-in-None-clause-value : goal.returns-in-None-clause-value
returns-in-None-clause-value c at =
    let a : Adoption = record { mapper = c.args.mapper; epoch = c.args.epoch; at = at; routes = c.args.r.now } in
    sym (part-none a c.args.dst c.args.part c.if-dst-mapper.false (sym (route-found a.routes c.args.dst c.args.mapper) ∙ sym c.in-None.ensures))

pub returns-in_ok-entries_of-in-Some-clause-value : goal.returns-in_ok-entries_of-in-Some-clause-value
returns-in_ok-entries_of-in-Some-clause-value c at =
    let a : Adoption = record { mapper = c.args.mapper; epoch = c.args.epoch; at = at; routes = c.args.r.now } in
    let dst = c.args.dst in
    let rs : List Route = c.routes_from-routes.result.now in
    let from = c.routes_from-routes.ensures ∙ ap (filter (λ r. nat_eq r.from dst)) c.list.ensures.value in
    let back = c.in_ok-copied-in-Some.field-0 in
    let es = c.in_ok-entries_of-in-Some.field-0 in
    let count = c.part_count-parts.ensures in
    let fewer = c.if-part-parts.false in
    let low : c.args.part < part_count (length rs) = omega arith in
    let way = sym (route-found a.routes dst c.args.mapper) ∙ sym c.in-Some.ensures ∙ ap Some (sym c.in_ok-copied-in-Some.ensures.value) in
    let cut = c.in_ok-entries_of-in-Some.ensures.value ∙ ap (λ (l : List Route). map {B = RouteEntry} (λ r. record { to = r.to; walk = r.walk }) l) c.part_of-entries.ensures in
    ap (λ n. Some (record { epoch = a.epoch; mapper = a.mapper; dst = dst; part = c.args.part; parts = n; back = back; entries = es })) count
    ∙ part-some a dst c.args.part rs back es c.if-dst-mapper.false from low way cut

pub returns-in_ok-entries_of-in-Some-clause-by_rules : goal.returns-in_ok-entries_of-in-Some-clause-by_rules
returns-in_ok-entries_of-in-Some-clause-by_rules c =
    let dst = c.args.dst in
    let rs : List Route = c.routes_from-routes.result.now in
    let all : List Route = c.list.result.now in
    let from : rs ≡ filter (λ r. nat_eq r.from dst) all = c.routes_from-routes.ensures in
    let back = c.in_ok-copied-in-Some.field-0 in
    let es = c.in_ok-entries_of-in-Some.field-0 in
    let count = c.part_count-parts.ensures in
    let fewer = c.if-part-parts.false in
    let low : c.args.part < part_count (length rs) = omega arith in
    let cut = c.in_ok-entries_of-in-Some.ensures.value ∙ ap (λ (l : List Route). map {B = RouteEntry} (λ r. record { to = r.to; walk = r.walk }) l) c.part_of-entries.ensures in
    let size : length rs ≡ length (entries_from c.args.r.now dst) = ap length (from ∙ ap (filter (λ r. nat_eq r.from dst)) c.list.ensures.value) ∙ sym (length-map (filter (λ r. nat_eq r.from dst) c.args.r.now) entry) in
    let few : length rs ≤ 128 = let r = c.requires in omega arith in
    ap (λ n. is_part (record { epoch = c.args.epoch; mapper = c.args.mapper; dst = dst; part = c.args.part; parts = n; back = back; entries = es })) count
    ∙ cut-ruled c.args.epoch c.args.mapper dst c.args.part all rs back es c.ranges.epoch.fits c.ranges.mapper.fits c.ranges.dst.fits (subst AreRising (sym c.list.ensures.value) c.list.ensures.rising) from few low c.in_ok-copied-in-Some.ensures.route cut c.in_ok-entries_of-in-Some.ensures.fit
