use Rattle.std.proofs.Common.{◌<◌, ◌-◌, ◌+◌, map, ap, ◌∙◌, arith}
use Rattle.std.specs.List.{range_with_len}
use Rattle.world_defs.specs.declared.event.Event.TheVariants.{GiveUp}
use Rattle.world_defs.specs.World.{WorldState, host_count, addresses}
use Rattle.world_defs.specs.Row.{IsPartWay}
use Rattle.world_laws.proofs.Reached.{row-cables}
use Rattle.log_laws.proofs.PartWay.{way-still}
use Rattle.fab_world.specs.Resting.{IsSilentIn}
use Rattle.fab_world.proofs.PassedBy.{up-to, to-end}
use Rattle.world_drain.proofs.AtRest.{giving-by}
use Rattle.world_drain.proofs.Cables.{way-cables, given_up-leaves}
use Rattle.world_drain.proofs.GivingUp.{GivingUp, giving-none, giving-on, giving-all}
use Rattle.world_drain.proofs.Later.{on-any}
use Rattle.world_drain.proofs.giving_up.give_up_all.Goals as goal

pub loop-host-init : goal.loop-host-init
loop-host-init c = giving-none c.args.w.now

-- where memory ran out
cut : (c : goal.After-from_residual) → IsPartWay c.args.w.now (map GiveUp (addresses c.args.w.now)) c.give_up.new.w
cut c =
    let f = c.in-Some.ensures.found in
    let at = up-to (IsSilentIn c.loop-host.w) (GivingUp c.args.w.now c.loop-host.w) c.loop-host.w c.loop-host.from (giving-by c.args.w.now c.loop-host.w) c.in-Some.host f.above f.there f.passed c.loop-host.invariant in
    let left = map GiveUp (range_with_len c.in-Some.host (host_count c.args.w.now - c.in-Some.host)) in
    at.way c.give_up.new.w (way-still c.loop-host.w c.give_up.new.w left c.in_err-give_up.ensures.err)

pub returns-in_err-give_up-clause-err : goal.returns-in_err-give_up-clause-err
returns-in_err-give_up-clause-err c = on-any c.from_residual.result (cut c)

pub returns-in_err-give_up-clause-cables : goal.returns-in_err-give_up-clause-cables
returns-in_err-give_up-clause-cables c = way-cables (given_up-leaves c.args.w.now) (cut c)

pub loop-host-preserved : goal.loop-host-preserved
loop-host-preserved c =
    let f = c.in-Some.ensures.found in
    let at = up-to (IsSilentIn c.loop-host.w) (GivingUp c.args.w.now c.loop-host.w) c.loop-host.w c.loop-host.from (giving-by c.args.w.now c.loop-host.w) c.in-Some.host f.above f.there f.passed c.loop-host.invariant in
    let low : c.in-Some.host < host_count c.args.w.now = omega (arith, f.there, c.loop-host.invariant.hosts) in
    giving-on c.args.w.now c.loop-host.w c.give_up.new.w c.in-Some.host at low c.in_ok-give_up.ensures.after c.in_ok-give_up.ensures.hosts

pub returns-clause-after : goal.returns-clause-after
returns-clause-after c =
    let all = to-end (IsSilentIn c.loop-host.w) (GivingUp c.args.w.now c.loop-host.w) c.loop-host.w c.loop-host.from (giving-by c.args.w.now c.loop-host.w) c.in_default.ensures.none c.loop-host.invariant in
    giving-all c.args.w.now c.loop-host.w (c.loop-host.from + (host_count c.loop-host.w - c.loop-host.from)) all (omega (arith, c.loop-host.invariant.hosts))

pub returns-clause-cables : goal.returns-clause-cables
returns-clause-cables c = ap (λ (v : WorldState). v.links.cables) (returns-clause-after c) ∙ row-cables (λ e k. k) (given_up-leaves c.args.w.now)
