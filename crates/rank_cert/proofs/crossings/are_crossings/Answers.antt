use Rattle.std.proofs.Common.{refl, arith, length, ◌≤◌}
use Rattle.rank_cert.proofs.Crossed.{below-next, below-all}
use Rattle.rank_cert.proofs.crossings.are_crossings.Goals as goal

pub loop-place-preserved : goal.loop-place-preserved
loop-place-preserved c = below-next c.args.m.now c.args.k.now c.args.table.now c.loop-place.place _ refl (c.if-not-is_right.ensures refl) c.loop-place.invariant

pub returns : goal.returns
returns c w =
    let past = c.loop-place-test.false in
    let end : length c.args.table.now ≤ c.loop-place.place = omega (arith, past) in
    below-all c.args.m.now c.args.k.now c.args.table.now c.loop-place.place end c.loop-place.invariant
