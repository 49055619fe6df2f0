use Rattle.std.proofs.Common.{false, Some, sym, refl, ◌∙◌}
use Rattle.world_defs.specs.World.{WorldState}
use Rattle.world_defs.specs.declared.event.Event.TheVariants.{Ask}
use Rattle.world_defs.specs.Step.{step}
use Rattle.world_defs.specs.Logs as log
use Rattle.log_laws.proofs.Asks.{host_try-reply}
use Rattle.world_drain.proofs.Later.{on-any}
use Rattle.world_asking.proofs.Tries.{host_try-sent}
use Rattle.world_asking.proofs.trying.host_try.Goals as goal

pub returns-in_err-probe-clause-err : goal.returns-in_err-probe-clause-err
returns-in_err-probe-clause-err c = on-any c.from_residual.result (host_try-sent c.args.mapper c.args.walk.now c.args.w.now c.send_probe.new.w c.in_err-probe.ensures.err)

pub returns-in_err-reply-clause-err : goal.returns-in_err-reply-clause-err
returns-in_err-reply-clause-err c =
    let u : WorldState = (step c.args.w.now (Ask c.args.mapper c.args.walk.now false)).1 in
    on-any c.from_residual-in_err-reply.result
    (host_try-reply c.args.mapper c.args.walk.now c.in-Some.host c.args.w.now u c.send_probe.new.w c.send_reply.new.w refl (sym c.in-Some.is ∙ c.in_ok-probe.ensures.probed) c.in_ok-probe.ensures.after c.in_err-reply.ensures.err)
