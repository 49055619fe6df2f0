use Rattle.world_drain.proofs.Later.{on-any}
use Rattle.world_asking.proofs.Tries.{loop_try-sent}
use Rattle.world_asking.proofs.trying.loop_try.Goals as goal

pub returns-in_err-probe-clause-err : goal.returns-in_err-probe-clause-err
returns-in_err-probe-clause-err c = on-any c.from_residual.result (loop_try-sent c.args.mapper c.args.walk.now c.args.w.now c.send_probe.new.w c.in_err-probe.ensures.err)
