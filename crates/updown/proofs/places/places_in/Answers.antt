use Rattle.std.proofs.Common.{arith, subst}
use Rattle.updown.proofs.Sorted.{vertices-long, vertex-there, written-next, written-all, AreWritten}
use Rattle.updown.proofs.places.places_in.Goals as goal

pub overflow_cast-place : goal.overflow_cast-place
overflow_cast-place c =
    let long = vertices-long c.args.levels.now c.args.vertices.now c.requires.sorted in
    let few = c.requires.few in
    let there = c.loop-place-test.true in
    omega arith

pub index_mut-requires : goal.index_mut-requires
index_mut-requires c =
    let there = vertex-there c.args.levels.now c.args.vertices.now c.requires.sorted c.loop-place.place c.loop-place-test.true in
    let whole = c.loop-place.invariant.whole in
    let held = c.loop-place.order.ok.0 in
    omega arith

pub loop-place-preserved : goal.loop-place-preserved
loop-place-preserved c = written-next c.args.levels.now c.args.vertices.now c.requires.sorted c.loop-place.place c.loop-place.order.items c.loop-place-test.true c.loop-place.invariant

pub returns : goal.returns
returns c =
    let few = c.loop-place.auto.place-end in
    let done = c.loop-place-test.false in
    written-all c.args.levels.now c.args.vertices.now c.requires.sorted c.loop-place.order.items (subst (λ place. AreWritten c.args.levels.now c.args.vertices.now place c.loop-place.order.items) (omega arith) c.loop-place.invariant)
