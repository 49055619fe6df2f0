use Rattle.std.proofs.Common.{◌≡◌, ◌-◌, map, length, ap, ◌∙◌, arith}
use Rattle.std.specs.List.{range_with_len}
use Rattle.world_defs.specs.declared.event.Event.TheVariants.{Reset}
use Rattle.world_defs.specs.World.{WorldState}
use Rattle.log_laws.proofs.PartWay.{way-still}
use Rattle.world_drain.proofs.Later.{on-any}
use Rattle.world_drain.proofs.Resets.{resetting-none, resetting-on, resetting-all, reset-channels}
use Rattle.world_drain.proofs.clearing.reset_full.Goals as goal

pub loop-c-init : goal.loop-c-init
loop-c-init c = resetting-none c.args.w.now

pub returns-in_err-happen-clause-err : goal.returns-in_err-happen-clause-err
returns-in_err-happen-clause-err c =
    let left = map Reset (range_with_len c.loop-c.from (length c.args.w.now.links.channels - c.loop-c.from)) in
    on-any c.from_residual.result (c.loop-c.invariant.way c.happen.new.w (way-still c.loop-c.w c.happen.new.w left c.in_err-happen.ensures.err))

pub loop-c-preserved : goal.loop-c-preserved
loop-c-preserved c =
    let f = c.in-Some.ensures.found in
    let one = c.in_ok-happen.ensures in
    resetting-on c.args.w.now c.loop-c.w c.happen.new.w c.loop-c.from c.in-Some.c c.loop-c.resets c.loop-c.invariant f.above f.there f.full f.passed one.after (ap (λ (v : WorldState). length v.links.channels) one.after ∙ reset-channels c.loop-c.w c.in-Some.c)

-- fewer channels are left
pub loop-c-smaller : goal.loop-c-smaller
loop-c-smaller c =
    let f = c.in-Some.ensures.found in
    let above = f.above in
    let there = f.there in
    let same : length c.happen.new.w.links.channels ≡ length c.loop-c.w.links.channels = ap (λ (v : WorldState). length v.links.channels) c.in_ok-happen.ensures.after ∙ reset-channels c.loop-c.w c.in-Some.c in
    omega (arith, above, there, same)

pub returns-clause-ok : goal.returns-clause-ok
returns-clause-ok c = resetting-all c.args.w.now c.loop-c.w c.loop-c.from c.loop-c.resets c.loop-c.invariant c.in_default.ensures.none
