use Rattle.std.proofs.Common.{◌<◌, ◌-◌, ◌+◌, arith}
use Rattle.world_defs.specs.World.{host_count}
use Rattle.fab_world.specs.Resting.{RestsIn}
use Rattle.fab_world.proofs.PassedBy.{up-to, to-end}
use Rattle.world_drain.proofs.AtRest.{expiring-by}
use Rattle.world_drain.proofs.Expiries.{ExpiringAll, expiring_all-none, expiring_all-on, expiring_all-cut, expiring_all-all}
use Rattle.world_drain.proofs.Later.{on-any}
use Rattle.world_drain.proofs.rounds.expire_all.Goals as goal

pub loop-host-init : goal.loop-host-init
loop-host-init c = expiring_all-none c.args.w.now

pub returns-in_err-expire_host-clause-err : goal.returns-in_err-expire_host-clause-err
returns-in_err-expire_host-clause-err c =
    let f = c.in-Some.ensures.found in
    let at = up-to (RestsIn c.loop-host.w) (ExpiringAll c.args.w.now c.loop-host.w) c.loop-host.w c.loop-host.from (expiring-by c.args.w.now c.loop-host.w) c.in-Some.host f.above f.there f.passed c.loop-host.invariant in
    let low : c.in-Some.host < host_count c.args.w.now = omega (arith, f.there, c.loop-host.invariant.hosts) in
    on-any c.from_residual.result
    (expiring_all-cut c.args.w.now c.loop-host.w c.expire_host.new.w c.in-Some.host at low c.in_err-expire_host.ensures.err)

pub loop-host-preserved : goal.loop-host-preserved
loop-host-preserved c =
    let f = c.in-Some.ensures.found in
    let at = up-to (RestsIn c.loop-host.w) (ExpiringAll c.args.w.now c.loop-host.w) c.loop-host.w c.loop-host.from (expiring-by c.args.w.now c.loop-host.w) c.in-Some.host f.above f.there f.passed c.loop-host.invariant in
    let low : c.in-Some.host < host_count c.args.w.now = omega (arith, f.there, c.loop-host.invariant.hosts) in
    expiring_all-on c.args.w.now c.loop-host.w c.expire_host.new.w c.in-Some.host at low c.in_ok-expire_host.ensures.after c.in_ok-expire_host.ensures.hosts

pub returns-clause-after : goal.returns-clause-after
returns-clause-after c =
    let all = to-end (RestsIn c.loop-host.w) (ExpiringAll c.args.w.now c.loop-host.w) c.loop-host.w c.loop-host.from (expiring-by c.args.w.now c.loop-host.w) c.in_default.ensures.none c.loop-host.invariant in
    expiring_all-all c.args.w.now c.loop-host.w (c.loop-host.from + (host_count c.loop-host.w - c.loop-host.from)) all (omega (arith, c.loop-host.invariant.hosts))
