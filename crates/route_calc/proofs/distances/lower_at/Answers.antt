use Rattle.std.proofs.Common.{◌≡◌, ◌<◌, length, ap, sym, subst, ◌∙◌, arith}
use Rattle.map_defs.specs.Orientation.{order_of}
use Rattle.route_calc.specs.Far.{place_in}
use Rattle.route_calc.specs.Exits.{exits_of}
use Rattle.route_calc.proofs.Listed.{exits-long, exits-index}
use Rattle.route_calc.proofs.Lowered.{place-low, step-one, settled-one}
use Rattle.route_calc.proofs.Swept.{swept-at, swept-host}
use Rattle.route_calc.proofs.distances.lower_at.Goals as goal

pub bounds-exits-v : goal.bounds-exits-v
bounds-exits-v c =
    let long : length c.args.exits.now ≡ length c.args.m.now.vertices = ap length c.requires.exits ∙ exits-long c.args.m.now (order_of c.args.m.now) in
    let low = c.requires.vertex in
    omega arith

pub returns-then-is_switch-clause-step : goal.returns-then-is_switch-clause-step
returns-then-is_switch-clause-step c =
    let m = c.args.m.now in
    let order = order_of c.args.m.now in
    let are : c.list.result.now ≡ exits_of m order c.args.v = c.list.ensures.value ∙ c.index-exits-v.is ∙ exits-index m order c.args.exits.now c.args.v c.index-exits-v.result c.requires.exits c.requires.vertex in
    let low : place_in c.args.v c.args.down < length c.args.far.now = subst (λ n. place_in c.args.v c.args.down < n) (sym c.requires.long) (place-low (length m.vertices) c.args.v c.args.down c.requires.vertex) in
    step-one m order c.args.far.now c.lower.new.far c.list.result.now c.args.v c.args.down c.lower.result c.vertices.ensures.is_map.is_map (sym c.is_switch.ensures ∙ c.if-is_switch.true) are low c.lower.ensures.value c.lower.ensures.told

pub returns-then-is_switch-clause-settled : goal.returns-then-is_switch-clause-settled
returns-then-is_switch-clause-settled c e =
    let m = c.args.m.now in
    let order = order_of c.args.m.now in
    let are : c.list.result.now ≡ exits_of m order c.args.v = c.list.ensures.value ∙ c.index-exits-v.is ∙ exits-index m order c.args.exits.now c.args.v c.index-exits-v.result c.requires.exits c.requires.vertex in
    settled-one m order c.args.far.now c.lower.new.far c.list.result.now c.args.v c.args.down are c.lower.ensures.value (sym c.lower.ensures.told ∙ e)

pub returns-then-is_switch-clause-swept : goal.returns-then-is_switch-clause-swept
returns-then-is_switch-clause-swept c k num at all =
    let m = c.args.m.now in
    let order = order_of c.args.m.now in
    let are : c.list.result.now ≡ exits_of m order c.args.v = c.list.ensures.value ∙ c.index-exits-v.is ∙ exits-index m order c.args.exits.now c.args.v c.index-exits-v.result c.requires.exits c.requires.vertex in
    let low : place_in c.args.v c.args.down < length c.args.far.now = subst (λ n. place_in c.args.v c.args.down < n) (sym c.requires.long) (place-low (length m.vertices) c.args.v c.args.down c.requires.vertex) in
    swept-at m order c.args.far.now c.lower.new.far c.list.result.now k c.args.v c.args.down num at (sym c.is_switch.ensures ∙ c.if-is_switch.true) low are c.lower.ensures.value all

pub returns-else-is_switch-clause-swept : goal.returns-else-is_switch-clause-swept
returns-else-is_switch-clause-swept c k num at all =
    let m = c.args.m.now in
    swept-host m (order_of m) c.args.far.now k c.args.v c.args.down at (sym c.is_switch.ensures ∙ c.if-is_switch.false) all
