use Rattle.std.proofs.Common.{◌∙◌, Option}
use Rattle.world_defs.specs.Logs as log
use Rattle.world_defs.proofs.LogRows.{settle-row, byte_settles}
use Rattle.promise_laws.proofs.CutShort.{way-whole}
use Rattle.world_drain.proofs.Later.{on-any}
use Rattle.run_defs.specs.declared.command.Command.TheVariants.{Settle}
use Rattle.run_defs.specs.Session.{LastMap, LastRoutes}
use Rattle.world_commands.specs.Cut.{HidesNoRefusal}
use Rattle.world_commands.specs.Done.{session_of}
use Rattle.world_commands.proofs.Cut.{in-line}
use Rattle.run_session.proofs.Leaving.{settle-unrefused, settle-missing}
use Rattle.run_session.proofs.settling.settle_text.Goals as goal

pub returns-in_default-clause-unrefused : goal.returns-in_default-clause-unrefused
returns-in_default-clause-unrefused c = λ made found. settle-unrefused (session_of c.args.w.now made found) c.settle.new.w

pub returns-clause-unrefused : goal.returns-clause-unrefused
returns-clause-unrefused c =
    in-line c.one_line.result (λ e. (made : Option LastMap) → (found : Option LastRoutes) → HidesNoRefusal (session_of c.args.w.now made found) Settle c.settle.new.w e)
    (λ made found. settle-missing (session_of c.args.w.now made found) c.settle.new.w c.in-Ok.ensures.after) c.one_line.ensures.err

pub returns-clause-err : goal.returns-clause-err
returns-clause-err c =
    on-any c.one_line.result (way-whole c.args.w.now c.settle.new.w (log.settle c.args.w.now).events (c.in-Ok.ensures.after ∙ (settle-row byte_settles c.args.w.now).there))
