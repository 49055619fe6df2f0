use Rattle.std.proofs.Common.{◌≡◌, length, ap, subst, arith}
use Rattle.core_map.specs.Walking.{AreSources}
use Rattle.core_map.proofs.Beginning.{first-sources}
use Rattle.core_map.proofs.sources.sources.Goals as goal

pub loop-i-init : goal.loop-i-init
loop-i-init c = first-sources c.args.m.now c.in_ok-numbers.numbers.items c.cables-i-end.ensures.is_map.is_map c.in_ok-numbers.ensures

pub returns : goal.returns
returns c =
    let long : length c.cables-i-end.result.now ≡ length c.args.m.now.cables = ap length c.cables-i-end.ensures.value in
    let past = c.loop-i-test.false in
    let end = c.loop-i.auto.i-end in
    let all : c.loop-i.i ≡ length c.args.m.now.cables = omega (arith, long, past, end) in
    subst (AreSources c.args.m.now c.loop-i.numbers.items) all c.loop-i.invariant
