use Rattle.world_defs.specs.Logs as log
use Rattle.log_laws.proofs.Asks.{sends-behind}
use Rattle.log_laws.proofs.PartWay.{way-still}
use Rattle.world_drain.proofs.Later.{on-any, on-err}
use Rattle.table_installing.proofs.parts.send.Goals as goal

pub returns-in_err-happen-clause-err : goal.returns-in_err-happen-clause-err
returns-in_err-happen-clause-err c = on-any c.from_residual.result (way-still c.args.w.now c.happen.new.w (log.sends c.args.host c.args.w.now).events c.in_err-happen.ensures.err)

pub returns-clause-err : goal.returns-clause-err
returns-clause-err c =
    on-err c.drain_watching.result (λ cut. sends-behind c.args.w.now c.happen.new.w c.drain_watching.new.w c.args.host c.in_ok-happen.ensures.after cut) c.drain_watching.ensures.err
