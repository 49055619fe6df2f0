use Rattle.log_laws.proofs.Asks.{sends-behind}
use Rattle.log_laws.proofs.PartWay.{way-still}
use Rattle.world_defs.specs.Logs as log
use Rattle.world_drain.proofs.Later.{on-any}
use Rattle.world_asking.proofs.sending.send_reply.Goals as goal

pub returns-in_err-_own-clause-err : goal.returns-in_err-_own-clause-err
returns-in_err-_own-clause-err c = on-any c.from_residual.result (way-still c.args.w.now c.inject.new.w (log.sends c.args.host c.args.w.now).events c.in_err-_own.ensures.err)

pub returns-in_err-seen-clause-err : goal.returns-in_err-seen-clause-err
returns-in_err-seen-clause-err c =
    on-any c.from_residual-in_err-seen.result
    (sends-behind c.args.w.now c.inject.new.w c.drain_watching.new.w c.args.host c.in_ok-_own.ensures.after c.in_err-seen.ensures.err)
