use Rattle.std.proofs.Common.{Option, refl, sym, subst}
use Rattle.std.specs.Prelude.{IfErr}
use Rattle.run_defs.specs.declared.command.Command.TheVariants.{Install}
use Rattle.run_defs.specs.Session.{LastMap, LastRoutes}
use Rattle.run_defs.specs.Outcome.{install}
use Rattle.promise_laws.proofs.CutShort.{part-none}
use Rattle.world_drain.proofs.Later.{on-any}
use Rattle.world_commands.specs.Cut.{HidesNoRefusal}
use Rattle.world_commands.specs.Done.{session_of}
use Rattle.world_commands.proofs.Cut.{in-line}
use Rattle.run_session.proofs.Leaving.{no-routes-missing}
use Rattle.run_session.proofs.installing.install_text.Goals as goal

pub returns-in-None-clause-err : goal.returns-in-None-clause-err
returns-in-None-clause-err c = on-any c.refused_text.result (part-none c.args.w.now c.args.w.now (install c.args.w.now c.args.tries c.args.last.now).acts refl)

pub returns-in-None-clause-unrefused : goal.returns-in-None-clause-unrefused
returns-in-None-clause-unrefused c =
    in-line c.refused_text.result (λ e. (made : Option LastMap) → HidesNoRefusal (session_of c.args.w.now made c.args.last.now) (Install c.args.tries) c.args.w.now e)
    (no-routes-missing c.args.w.now c.args.last.now c.args.tries c.in-None.is) c.refused_text.ensures.err

pub returns-in-Some-clause-unrefused : goal.returns-in-Some-clause-unrefused
returns-in-Some-clause-unrefused c =
    subst (λ (last : Option LastRoutes). IfErr c.install_last.result (λ e. (made : Option LastMap) → HidesNoRefusal (session_of c.args.w.now made last) (Install c.args.tries) c.install_last.new.w e))
    (sym c.in-Some.is) c.install_last.ensures.unrefused

pub install_last-requires-clause-kept : goal.install_last-requires-clause-kept
install_last-requires-clause-kept c = c.requires.kept c.in-Some.l c.in-Some.is
