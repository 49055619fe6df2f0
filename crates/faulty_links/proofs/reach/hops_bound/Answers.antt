use Rattle.std.proofs.Common.{◌-◌, length, arith}
use Rattle.faulty_links.proofs.HopsBelow.{below-next, below-empty, below-all}
use Rattle.faulty_links.proofs.reach.hops_bound.Goals as goal

pub loop-c-init : goal.loop-c-init
loop-c-init c = record { within = omega arith; seen = omega arith; few = omega arith }

pub overflow_add-bound : goal.overflow_add-bound
overflow_add-bound c =
    let i = c.loop-c.invariant in
    let few = i.few in
    let within = i.within in
    let most = c.channels-few.ensures.few in
    let count = c.channels-few.ensures.count in
    let more = c.bytes_in-bound.ensures.few in
    omega (arith, few, within, most, count, more)

pub loop-c-smaller : goal.loop-c-smaller
loop-c-smaller c =
    let f = c.in-Some.ensures.found in
    let above = f.above in
    let there = f.there in
    omega (arith, above, there)

pub loop-c-preserved : goal.loop-c-preserved
loop-c-preserved c =
    let i = c.loop-c.invariant in
    let f = c.in-Some.ensures.found in
    let above = f.above in
    let there = f.there in
    let seen = i.seen in
    let few = i.few in
    let more = c.bytes_in-bound.ensures.few in
    let enough = c.bytes_in-bound.ensures.enough in
    let skipped = below-empty c.args.links.now.channels (c.in-Some.c - c.loop-c.from) c.loop-c.from c.in-Some.c (omega (arith, above)) f.passed in
    let next = below-next c.args.links.now.channels c.in-Some.c in
    record {
      within = omega (arith, there);
      seen = omega (arith, seen, enough, skipped, next);
      few = omega (arith, few, more, above);
    }

pub returns-clause-enough : goal.returns-clause-enough
returns-clause-enough c =
    let i = c.loop-c.invariant in
    let within = i.within in
    let seen = i.seen in
    let rest = below-empty c.args.links.now.channels (length c.args.links.now.channels - c.loop-c.from) c.loop-c.from (length c.args.links.now.channels) (omega (arith, within)) (λ k low high. c.in_default.ensures.none k low) in
    let all = below-all c.args.links.now.channels in
    omega (arith, seen, rest, all)

pub returns-clause-few : goal.returns-clause-few
returns-clause-few c =
    let i = c.loop-c.invariant in
    let within = i.within in
    let few = i.few in
    let most = c.channels-few.ensures.few in
    let count = c.channels-few.ensures.count in
    omega (arith, few, within, most, count)
