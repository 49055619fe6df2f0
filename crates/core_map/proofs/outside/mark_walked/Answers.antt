use Rattle.std.proofs.Common.{◌≡◌, length, ap, subst, arith}
use Rattle.core_map.specs.Hanging.{AreHanging}
use Rattle.core_map.proofs.Hung.{first-hanging, hanging-outside}
use Rattle.core_map.proofs.outside.mark_walked.Goals as goal

pub loop-j-init : goal.loop-j-init
loop-j-init c = first-hanging c.args.m.now c.args.walk.now c.requires.walk c.args.marks.now.items c.requires.before

pub returns : goal.returns
returns c =
    let t = c.args.walk.now in
    let long : length c.order-j-end.result.now ≡ length t.order = ap length c.order-j-end.ensures in
    let past = c.loop-j-test.false in
    let end = c.loop-j.auto.j-end in
    let all : c.loop-j.j ≡ length t.order = omega (arith, long, past, end) in
    hanging-outside c.args.m.now t c.requires.walk c.loop-j.marks.items (subst (λ j. AreHanging c.args.m.now t j c.loop-j.marks.items) all c.loop-j.invariant)
