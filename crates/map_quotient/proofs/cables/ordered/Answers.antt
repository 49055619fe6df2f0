use Rattle.std.proofs.Common.{◌≡◌, ◌+◌, ◌*◌, length, ap, ◌∙◌, arith}
use Rattle.map_quotient.specs.InOrder.{cables_below}
use Rattle.map_quotient.proofs.cables.ordered.Goals as goal

pub loop-v-preserved : goal.loop-v-preserved
loop-v-preserved c =
    let more : 31 * c.loop-v.v + 31 ≡ 31 * (c.loop-v.v + 1) = omega arith in
    c.in_ok-add_cables_of.ensures ∙ ap (cables_below c.args.map.now) more

pub returns-clause-cables : goal.returns-clause-cables
returns-clause-cables c =
    let count = c.vertices-v-end.ensures.value in
    let end = c.loop-v.auto.v-end in
    let past = c.loop-v-test.false in
    let long : 31 * c.loop-v.v ≡ 31 * length c.args.map.now.vertices = (let e : length c.vertices-v-end.result.now ≡ length c.args.map.now.vertices = ap length count in omega arith) in
    c.loop-v.invariant ∙ ap (cables_below c.args.map.now) long
