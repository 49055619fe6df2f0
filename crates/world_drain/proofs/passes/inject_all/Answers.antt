use Rattle.std.proofs.Common.{◌<◌, ◌-◌, ◌+◌, map, refl, arith}
use Rattle.std.specs.List.{range_with_len}
use Rattle.world_defs.specs.declared.event.Event.TheVariants.{Inject}
use Rattle.world_defs.specs.World.{host_count}
use Rattle.log_laws.proofs.PartWay.{way-still}
use Rattle.fab_world.specs.Resting.{IsSilentIn}
use Rattle.fab_world.proofs.PassedBy.{up-to, to-end}
use Rattle.world_drain.proofs.AtRest.{injecting-by}
use Rattle.world_drain.proofs.Injects.{Injecting, injecting-none, injecting-on, injecting-all}
use Rattle.world_drain.proofs.Later.{on-any}
use Rattle.world_drain.proofs.passes.inject_all.Goals as goal

pub loop-host-init : goal.loop-host-init
loop-host-init c = injecting-none c.args.w.now

pub returns-in_err-moved-clause-err : goal.returns-in_err-moved-clause-err
returns-in_err-moved-clause-err c =
    let f = c.in-Some.ensures.found in
    let at = up-to (IsSilentIn c.loop-host.w) (λ h. Injecting c.args.w.now c.loop-host.w h c.loop-host.moved) c.loop-host.w c.loop-host.from (injecting-by c.args.w.now c.loop-host.w c.loop-host.moved) c.in-Some.host f.above f.there f.passed c.loop-host.invariant in
    let left = map Inject (range_with_len c.in-Some.host (host_count c.args.w.now - c.in-Some.host)) in
    on-any c.from_residual.result (at.way c.happens.new.w (way-still c.loop-host.w c.happens.new.w left c.in_err-moved.ensures.err))

pub loop-host-preserved : goal.loop-host-preserved
loop-host-preserved c =
    let f = c.in-Some.ensures.found in
    let at = up-to (IsSilentIn c.loop-host.w) (λ h. Injecting c.args.w.now c.loop-host.w h c.loop-host.moved) c.loop-host.w c.loop-host.from (injecting-by c.args.w.now c.loop-host.w c.loop-host.moved) c.in-Some.host f.above f.there f.passed c.loop-host.invariant in
    let low : c.in-Some.host < host_count c.args.w.now = omega (arith, f.there, c.loop-host.invariant.hosts) in
    injecting-on c.args.w.now c.loop-host.w c.happens.new.w c.in-Some.host c.loop-host.moved c.in_ok-moved.field-0 _ at low
    c.in_ok-moved.ensures.changed c.in_ok-moved.ensures.after refl c.in_ok-moved.ensures.hosts

pub returns-clause-moved : goal.returns-clause-moved
returns-clause-moved c =
    let all = to-end (IsSilentIn c.loop-host.w) (λ h. Injecting c.args.w.now c.loop-host.w h c.loop-host.moved) c.loop-host.w c.loop-host.from (injecting-by c.args.w.now c.loop-host.w c.loop-host.moved) c.in_default.ensures.none c.loop-host.invariant in
    (injecting-all c.args.w.now c.loop-host.w (c.loop-host.from + (host_count c.loop-host.w - c.loop-host.from)) c.loop-host.moved all (omega (arith, c.loop-host.invariant.hosts))).0

pub returns-clause-after : goal.returns-clause-after
returns-clause-after c =
    let all = to-end (IsSilentIn c.loop-host.w) (λ h. Injecting c.args.w.now c.loop-host.w h c.loop-host.moved) c.loop-host.w c.loop-host.from (injecting-by c.args.w.now c.loop-host.w c.loop-host.moved) c.in_default.ensures.none c.loop-host.invariant in
    (injecting-all c.args.w.now c.loop-host.w (c.loop-host.from + (host_count c.loop-host.w - c.loop-host.from)) c.loop-host.moved all (omega (arith, c.loop-host.invariant.hosts))).1
