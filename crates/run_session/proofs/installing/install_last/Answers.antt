use Rattle.std.proofs.Common.{◌∙◌, Option, Some, refl, sym}
use Rattle.run_defs.specs.declared.command.Command.TheVariants.{Install}
use Rattle.run_defs.specs.Session.{LastMap}
use Rattle.run_defs.specs.Outcome.{install}
use Rattle.promise_laws.proofs.CutShort.{part-none}
use Rattle.world_drain.proofs.Later.{on-any}
use Rattle.world_commands.specs.Cut.{HidesNoRefusal}
use Rattle.world_commands.specs.Done.{session_of}
use Rattle.world_commands.proofs.Cut.{in-line}
use Rattle.run_session.proofs.Leaving.{busy-install-missing}
use Rattle.run_session.proofs.installing.install_last.Goals as goal

pub returns-clause-err : goal.returns-clause-err
returns-clause-err c = on-any c.refused_text.result (part-none c.args.w.now c.args.w.now (install c.args.w.now c.args.tries (Some c.args.l.now)).acts refl)

pub returns-clause-unrefused : goal.returns-clause-unrefused
returns-clause-unrefused c =
    in-line c.refused_text.result (λ e. (made : Option LastMap) → HidesNoRefusal (session_of c.args.w.now made (Some c.args.l.now)) (Install c.args.tries) c.args.w.now e)
    (busy-install-missing c.args.w.now c.args.l.now c.args.tries (sym c.links_idle.ensures ∙ c.if-links_idle.false)) c.refused_text.ensures.err
