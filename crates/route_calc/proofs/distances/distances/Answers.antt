use Rattle.std.proofs.Common.{◌≡◌, ◌++◌, length, take, drop, sym, ap, subst, ◌∙◌, arith}
use Rattle.std.proofs.lemmas.List.{take_at}
use Rattle.map_defs.specs.Orientation.{order_of}
use Rattle.route_calc.specs.Far.{AreDistances}
use Rattle.route_calc.specs.Lowering.{AreSound}
use Rattle.route_calc.proofs.Lowered.{first-long, first-sound, settled-distances}
use Rattle.route_calc.proofs.distances.distances.Goals as goal

pub lower-init : goal.lower-init
lower-init c =
    let m = c.args.m.now in
    record {
      long = ap length c.in_ok-far.ensures ∙ first-long (length m.vertices) c.args.to;
      sound = subst (AreSound m (order_of m) c.args.to) (sym c.in_ok-far.ensures) (first-sound m (order_of m) (length m.vertices) c.args.to c.requires.vertex);
    }

pub returns-clause-distances : goal.returns-clause-distances
returns-clause-distances c =
    let m = c.args.m.now in
    let old = c.lower.far.items in
    let new = c.lower_again.new.far in
    let long : length new ≡ length old = c.lower_again.ensures.long ∙ ap length c.deref_mut.ensures.value in
    let held = c.lower.far.ok.0 in
    let fits : length new ≡ c.lower.far.len = omega arith in
    let same : take c.lower.far.len (new ++ drop (length new) old) ≡ new = take_at new (drop (length new) old) c.lower.far.len fits in
    let sound = c.lower_again.ensures.sound c.args.to (subst (AreSound m (order_of m) c.args.to) (sym c.deref_mut.ensures.value) c.lower.invariant.sound) in
    subst (AreDistances m (order_of m) c.args.to) (sym same) (settled-distances m (order_of m) new c.args.to sound (c.lower_again.ensures.settled c.lower-test.false))

pub returns-clause-long : goal.returns-clause-long
returns-clause-long c =
    let old = c.lower.far.items in
    let new = c.lower_again.new.far in
    let long : length new ≡ length old = c.lower_again.ensures.long ∙ ap length c.deref_mut.ensures.value in
    let held = c.lower.far.ok.0 in
    let fits : length new ≡ c.lower.far.len = omega arith in
    let same : take c.lower.far.len (new ++ drop (length new) old) ≡ new = take_at new (drop (length new) old) c.lower.far.len fits in
    ap length same ∙ long ∙ c.lower.invariant.long
