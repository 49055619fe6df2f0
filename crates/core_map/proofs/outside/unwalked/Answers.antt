use Rattle.std.proofs.Common.{◌≡◌, length, ap, subst, arith}
use Rattle.core_map.specs.Hanging.{AreUnwalked}
use Rattle.core_map.proofs.Beginning.{first-unwalked}
use Rattle.core_map.proofs.outside.unwalked.Goals as goal

pub loop-i-init : goal.loop-i-init
loop-i-init c = first-unwalked c.args.m.now c.args.walk.now c.in_ok-marks.marks.items c.in_ok-marks.ensures

pub returns : goal.returns
returns c =
    let m = c.args.m.now in
    let long : length c.cables-i-end.result.now ≡ length m.cables = ap length c.cables-i-end.ensures.value in
    let past = c.loop-i-test.false in
    let end = c.loop-i.auto.i-end in
    let all : c.loop-i.i ≡ length m.cables = omega (arith, long, past, end) in
    subst (λ i. AreUnwalked m c.args.walk.now i c.loop-i.marks.items) all c.loop-i.invariant
