use Rattle.std.proofs.Common.{arith, rules, ◌≡◌, ◌<◌, ◌≤◌, ◌+◌, length, List, Option, Some, IfSome, sym, ap, subst, ◌∙◌}
use Rattle.std.specs.Prelude.{slice_get}
use Rattle.std.proofs.lemmas.Option.{slice_get-get_or}
use Rattle.net_defs.specs.declared.route.Route.{Route}
use Rattle.map_defs.specs.Orientation.{order_of}
use Rattle.map_defs.specs.Routing.{IsLeastLegal}
use Rattle.route_calc.specs.Adding.{AddsRoutes, IsRightRoute, IsLastLeast}
use Rattle.route_calc.specs.Hosts.{HostWays, AreWaysOf}
use Rattle.route_calc.proofs.Hanging.{slice-holds, before-holds}
use Rattle.route_calc.proofs.Adding.{adds-none, adds-itself, adds-one, adds-taken, adds-last}
use Rattle.route_calc.proofs.pairs.add_routes.Goals as goal
use Rattle.route_calc.proofs.pairs.add_routes.Goals.{then-a-b+in_ok-walk+in_ok-add_route, else-a-b}

pub loop-k-init : goal.loop-k-init
loop-k-init c = adds-none c.args.m.now (order_of c.args.m.now) c.args.from.now.host c.args.ways.now c.args.set.now

pub add_route-requires : goal.add_route-requires
add_route-requires c =
    let ways = c.args.ways.now in
    let at = c.index-ways-k.result in
    let there : slice_get ways c.loop-k.k ≡ Some at = slice_get-get_or ways c.loop-k.k at (let low : c.loop-k.k < length ways = search rules in low) ∙ ap Some (sym c.index-ways-k.is) in
    let r : Route = record { from = c.host-a.result; to = c.host-b.result; walk = c.in_ok-walk.walk } in
    adds-taken c.args.m.now (order_of c.args.m.now) c.args.from.now.host ways c.loop-k.k c.args.set.now c.loop-k.set at r c.loop-k.invariant c.requires.before there c.host-a.ensures c.host-b.ensures

pub loop-k-preserved : goal.loop-k-preserved
loop-k-preserved c =
    let m = c.args.m.now in
    let ways = c.args.ways.now in
    let from = c.args.from.now.host in
    let at = c.index-ways-k.result in
    let k = c.loop-k.k in
    let there : slice_get ways k ≡ Some at = slice_get-get_or ways k at (let low : k < length ways = search rules in low) ∙ ap Some (sym c.index-ways-k.is) in
    elim c.if-a-b.branch [
      | then-a-b+in_ok-walk+in_ok-add_route w ↦
          (let r : Route = record { from = c.host-a.result; to = c.host-b.result; walk = w.in_ok-walk.walk } in
          let least : IsLeastLegal m (order_of m) c.host-a.result c.host-b.result w.in_ok-walk.walk = subst (λ h. IsLeastLegal m (order_of m) h c.host-b.result w.in_ok-walk.walk) (sym c.host-a.ensures) (subst (λ h. IsLeastLegal m (order_of m) from h w.in_ok-walk.walk) (sym c.host-b.ensures) w.in_ok-walk.ensures) in
          let right : IsRightRoute m (order_of m) r = record { differ = λ e. (let test = w.if-a-b.true in let same : c.host-a.result ≡ c.host-b.result = e in absurd (omega arith)); least = least } in
          subst (λ (new : List Route). AddsRoutes m (order_of m) from ways (k + 1) c.args.set.now new) (sym (w.set-is ∙ w.in_ok-add_route.ensures)) (adds-one m (order_of m) from ways k c.args.set.now c.loop-k.set at r c.loop-k.invariant c.requires.rising there c.host-a.ensures c.host-b.ensures right))
      | else-a-b w ↦
          subst (λ (new : List Route). AddsRoutes m (order_of m) from ways (k + 1) c.args.set.now new) (sym w.set-is) (adds-itself m (order_of m) from ways k c.args.set.now c.loop-k.set at c.loop-k.invariant there (let test = w.if-a-b.false in let same : c.host-a.result ≡ c.host-b.result = omega arith in sym c.host-a.ensures ∙ same ∙ c.host-b.ensures))
    ]

pub next_walk-requires-clause-last : goal.next_walk-requires-clause-last
next_walk-requires-clause-last c =
    let m = c.args.m.now in
    let from = c.args.from.now.host in
    subst (IsLastLeast m (order_of m) from) (sym c.list.ensures.value) (adds-last m (order_of m) from c.args.ways.now c.loop-k.k c.args.set.now c.loop-k.set c.loop-k.invariant c.requires.before)

pub next_walk-requires-clause-to : goal.next_walk-requires-clause-to
next_walk-requires-clause-to c =
    let ways = c.args.ways.now in
    let at = c.index-ways-k.result in
    let there : slice_get ways c.loop-k.k ≡ Some at = slice_get-get_or ways c.loop-k.k at (let low : c.loop-k.k < length ways = search rules in low) ∙ ap Some (sym c.index-ways-k.is) in
    slice-holds (AreWaysOf c.args.m.now (order_of c.args.m.now)) ways c.loop-k.k at c.requires.to there

pub next_walk-requires-clause-other : goal.next_walk-requires-clause-other
next_walk-requires-clause-other c =
    let m = c.args.m.now in
    subst (λ (o : Option HostWays). IfSome o (AreWaysOf m (order_of m))) (sym c.ways_before-other.ensures) (before-holds (AreWaysOf m (order_of m)) c.args.ways.now c.loop-k.k c.requires.to)

pub returns : goal.returns
returns c =
    let m = c.args.m.now in
    let ways = c.args.ways.now in
    let from = c.args.from.now.host in
    let past : length ways ≤ c.loop-k.k = search rules in
    let held = c.loop-k.auto.k-end in
    let count : c.loop-k.k ≡ length ways = omega arith in
    subst (λ n. AddsRoutes m (order_of m) from ways n c.args.set.now c.loop-k.set) count c.loop-k.invariant
