use Rattle.std.proofs.Common.{◌+◌, sym, ap, ◌∙◌, refl, arith}
use Rattle.link_model.proofs.Runs.{hops-most, following-none, following-on, hop-fewer}
use Rattle.link_model.proofs.Turning.{entered-is, turn-there}
use Rattle.world_defs.specs.Advance.{course}
use Rattle.link_model.specs.Hop.{entered_by}
use Rattle.link_model.proofs.course.follow_by.Goals as goal

pub loop-next-init : goal.loop-next-init
loop-next-init g c = following-none c.args.wiring.now c.args.c c.args.packet.now c.requires.there

pub strip_turn-requires : goal.strip_turn-requires
strip_turn-requires g c =
    turn-there c.args.wiring.now c.loop-next.at c.in-Some.next c.loop-next.packet
    (entered-is (course c.args.wiring.now c.loop-next.at c.loop-next.packet) c.in-Some.next (sym c.in-Some.ensures))

pub overflow_add-hops : goal.overflow_add-hops
overflow_add-hops g c =
    let few = c.loop-next.invariant.few in
    let most = hops-most c.args.packet.now c.size-few.result c.size-few.ensures.bytes c.size-few.ensures.some c.size-few.ensures.few in
    omega (arith, few, most)

pub loop-next-smaller : goal.loop-next-smaller
loop-next-smaller g c =
    let to = entered-is (course c.args.wiring.now c.loop-next.at c.loop-next.packet) c.in-Some.next (sym c.in-Some.ensures) in
    let fewer = hop-fewer c.args.wiring.now c.loop-next.at c.in-Some.next c.loop-next.packet c.strip_turn.new.self to c.strip_turn.ensures in
    omega (arith, fewer)

pub loop-next-preserved : goal.loop-next-preserved
loop-next-preserved g c =
    let to = entered-is (course c.args.wiring.now c.loop-next.at c.loop-next.packet) c.in-Some.next (sym c.in-Some.ensures) in
    following-on c.args.wiring.now c.args.c c.args.packet.now c.loop-next.packet c.strip_turn.new.self c.loop-next.hops c.loop-next.at c.in-Some.next (c.loop-next.hops + 1)
    c.loop-next.invariant to c.strip_turn.ensures refl

pub returns-clause-last : goal.returns-clause-last
returns-clause-last g c = λ next is. c.in_default.not-Some next (c.next_channel.ensures ∙ ap entered_by is)

pub returns-clause-few : goal.returns-clause-few
returns-clause-few g c =
    let few = c.loop-next.invariant.few in
    let most = hops-most c.args.packet.now c.size-few.result c.size-few.ensures.bytes c.size-few.ensures.some c.size-few.ensures.few in
    omega (arith, few, most)
