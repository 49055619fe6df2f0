use Rattle.std.proofs.Common.{◌≡◌, sym, subst}
use Rattle.std.specs.Prelude.{IfOk, OnOk}
use Rattle.world_defs.specs.Log.{Log}
use Rattle.world_defs.specs.Logs as log
use Rattle.log_laws.proofs.Settles.{round-expiries, round-on, round-passes}
use Rattle.world_drain.specs.Settling.{capped}
use Rattle.world_drain.proofs.Later.{on-any, on-err}
use Rattle.world_drain.proofs.rounds.round.Goals as goal

pub returns-clause-resets : goal.returns-clause-resets
returns-clause-resets c =
    subst (λ (l : Log log.Moved). IfOk c.passes.result (λ n. n ≡ capped l.value.resets)) (sym (round-on c.args.w.now c.expire_all.new.w c.in_ok-expire_all.ensures.after)) c.passes.ensures.resets

pub returns-clause-after : goal.returns-clause-after
returns-clause-after c =
    subst (λ (l : Log log.Moved). OnOk c.passes.result (c.passes.new.w ≡ l.world)) (sym (round-on c.args.w.now c.expire_all.new.w c.in_ok-expire_all.ensures.after)) c.passes.ensures.after

pub returns-clause-err : goal.returns-clause-err
returns-clause-err c =
    on-err c.passes.result (round-passes c.args.w.now c.expire_all.new.w c.passes.new.w c.in_ok-expire_all.ensures.after) c.passes.ensures.err

pub returns-in_err-expire_all-clause-err : goal.returns-in_err-expire_all-clause-err
returns-in_err-expire_all-clause-err c = on-any c.from_residual.result (round-expiries c.args.w.now c.expire_all.new.w c.in_err-expire_all.ensures.err)
