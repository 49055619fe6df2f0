use Rattle.std.proofs.Common.{◌≡◌, length, ap, subst, arith}
use Rattle.core_map.specs.Walking.{AreSeen}
use Rattle.core_map.proofs.Beginning.{last-walk}
use Rattle.core_map.proofs.walk.walk_all.Goals as goal

pub returns : goal.returns
returns c =
    let m = c.args.m.now in
    let long : length c.cables-i-end.result.now ≡ length m.cables = ap length c.cables-i-end.ensures.value in
    let past = c.loop-i-test.false in
    let end = c.loop-i.auto.i-end in
    let all : c.loop-i.i ≡ length m.cables = omega (arith, long, past, end) in
    last-walk m c.loop-i.walk c.loop-i.invariant.walk c.loop-i.invariant.nowhere (subst (AreSeen m c.loop-i.walk) all c.loop-i.invariant.seen)
