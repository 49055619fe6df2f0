use Rattle.std.proofs.Common.{◌≡◌, ◌<◌, ◌+◌, true, false, length, drop, is_some, sym, ap, ◌∙◌}
use Rattle.std.proofs.lemmas.List.{at_drop_more}
use Rattle.net_defs.specs.declared.route.Route.{Route}
use Rattle.net_defs.specs.Building.{first_of_two}
use Rattle.rank_cert.specs.Checking.{first_fault, route_fault}
use Rattle.rank_cert.proofs.Along.{first-some, first-no}
use Rattle.rank_cert.proofs.checking.fault_among.Goals as goal

pub returns-then-is_some : goal.returns-then-is_some
returns-then-is_some c =
    let m = c.args.m.now in
    let ks = c.args.k.now in
    let rs = c.args.routes.now in
    let i = c.loop-r.r-index in
    let r : Route = c.r-item.result in
    let lt : i < length rs = c.loop-r-test.true in
    let step : first_fault m ks (drop i rs) ≡ first_of_two (route_fault m ks r) (first_fault m ks (drop (i + 1) rs)) =
    at_drop_more (first_fault m ks) rs i r lt ∙ ap (λ x. first_of_two (route_fault m ks x) (first_fault m ks (drop (i + 1) rs))) (sym c.r-item.is) in
    let some : is_some (route_fault m ks r) ≡ true = ap is_some (sym c.fault_unless_shown-fault.ensures) ∙ sym c.if-is_some.ensures in
    c.fault_unless_shown-fault.ensures ∙ sym (first-some (route_fault m ks r) (first_fault m ks (drop (i + 1) rs)) some) ∙ sym step ∙ c.loop-r.invariant

pub loop-r-preserved : goal.loop-r-preserved
loop-r-preserved c =
    let m = c.args.m.now in
    let ks = c.args.k.now in
    let rs = c.args.routes.now in
    let i = c.loop-r.r-index in
    let r : Route = c.r-item.result in
    let lt : i < length rs = c.loop-r-test.true in
    let step : first_fault m ks (drop i rs) ≡ first_of_two (route_fault m ks r) (first_fault m ks (drop (i + 1) rs)) =
    at_drop_more (first_fault m ks) rs i r lt ∙ ap (λ x. first_of_two (route_fault m ks x) (first_fault m ks (drop (i + 1) rs))) (sym c.r-item.is) in
    let none : is_some (route_fault m ks r) ≡ false = ap is_some (sym c.fault_unless_shown-fault.ensures) ∙ sym c.if-is_some.ensures in
    sym (first-no (route_fault m ks r) (first_fault m ks (drop (i + 1) rs)) none) ∙ sym step ∙ c.loop-r.invariant
