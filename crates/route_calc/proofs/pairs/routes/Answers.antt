use Rattle.std.proofs.Common.{◌≡◌, List, length, Some, sym, ap, subst, ◌∙◌, arith}
use Rattle.std.specs.Prelude.{slice_get}
use Rattle.std.specs.List.{AllByRecursion}
use Rattle.std.proofs.lemmas.Option.{slice_get-get_or}
use Rattle.journal_defs.proofs.Members.{all-member}
use Rattle.map_defs.specs.Orientation.{order_of}
use Rattle.route_calc.specs.Adding.{AddsRoutes}
use Rattle.route_calc.specs.Hosts.{HostWays, AreWaysOf, AreRisingHosts, AreAllWays}
use Rattle.route_calc.proofs.Adding.{get-member}
use Rattle.route_calc.proofs.Made.{Made, made-none, made-more, made-routes}
use Rattle.route_calc.proofs.pairs.routes.Goals as goal

pub loop-from-init : goal.loop-from-init
loop-from-init c = subst (Made c.args.m.now (order_of c.args.m.now) c.deref-from-items.result.now 0) (sym c.new-set.ensures) (made-none c.args.m.now (order_of c.args.m.now) c.deref-from-items.result.now)

pub add_routes-requires-clause-from : goal.add_routes-requires-clause-from
add_routes-requires-clause-from c =
    let m = c.args.m.now in
    let ws = c.deref-from-items.result.now in
    let at = c.from-item.result in
    let all = subst (AreAllWays m (order_of m)) (sym c.deref-from-items.ensures.value) c.in_ok-ways.ensures in
    let there : slice_get ws c.loop-from.from-index ≡ Some at = slice_get-get_or ws c.loop-from.from-index at c.loop-from-test.true ∙ ap Some (sym c.from-item.is) in
    all-member (AreWaysOf m (order_of m)) at ws all.each (get-member ws c.loop-from.from-index at there)

pub add_routes-requires-clause-to : goal.add_routes-requires-clause-to
add_routes-requires-clause-to c = subst (AllByRecursion (AreWaysOf c.args.m.now (order_of c.args.m.now))) (sym c.deref-in-loop-from-2.ensures.value) c.in_ok-ways.ensures.each

pub add_routes-requires-clause-rising : goal.add_routes-requires-clause-rising
add_routes-requires-clause-rising c = subst AreRisingHosts (sym c.deref-in-loop-from-2.ensures.value) c.in_ok-ways.ensures.rising

pub add_routes-requires-clause-before : goal.add_routes-requires-clause-before
add_routes-requires-clause-before c =
    let ws = c.deref-from-items.result.now in
    let at = c.from-item.result in
    let there : slice_get ws c.loop-from.from-index ≡ Some at = slice_get-get_or ws c.loop-from.from-index at c.loop-from-test.true ∙ ap Some (sym c.from-item.is) in
    c.loop-from.invariant.before c.loop-from.from-index at (omega arith) there

pub loop-from-preserved : goal.loop-from-preserved
loop-from-preserved c =
    let m = c.args.m.now in
    let ws = c.deref-from-items.result.now in
    let at = c.from-item.result in
    let k = c.loop-from.from-index in
    let old = c.loop-from.set in
    let new = c.add_routes.new.set in
    let all = subst (AreAllWays m (order_of m)) (sym c.deref-from-items.ensures.value) c.in_ok-ways.ensures in
    let there : slice_get ws k ≡ Some at = slice_get-get_or ws k at c.loop-from-test.true ∙ ap Some (sym c.from-item.is) in
    let same : c.deref-in-loop-from-2.result.now ≡ ws = c.deref-in-loop-from-2.ensures.value ∙ sym c.deref-from-items.ensures.value in
    let adds = subst (λ (ts : List HostWays). AddsRoutes m (order_of m) at.host ts (length ts) old new) same c.in_ok-add_routes.ensures in
    made-more m (order_of m) ws k old new at c.loop-from.invariant all.rising there adds

pub returns : goal.returns
returns c =
    let m = c.args.m.now in
    let ws = c.deref-from-items.result.now in
    let all = subst (AreAllWays m (order_of m)) (sym c.deref-from-items.ensures.value) c.in_ok-ways.ensures in
    let past = c.loop-from-test.false in
    let held = c.loop-from.auto.from-index-end in
    let count : c.loop-from.from-index ≡ length ws = omega arith in
    let made = subst (λ n. Made m (order_of m) ws n c.loop-from.set) count c.loop-from.invariant in
    made-routes m (order_of m) ws c.loop-from.set c.list.ensures.rising made all
