use Rattle.std.proofs.Common.{◌≡◌, Option, Some, true, false, refl}
use Rattle.std.proofs.lemmas.Result.{on_ok_weaker}
use Rattle.run_defs.specs.declared.command.Command.TheVariants.{Install}
use Rattle.run_defs.specs.Outcome.{install, may_install, refusal_cause}
use Rattle.run_defs.specs.Session.{LastMap}
use Rattle.promise_laws.proofs.CutShort.{part-none}
use Rattle.world_drain.proofs.Later.{on-any}
use Rattle.world_commands.specs.Cut.{HidesNoRefusal}
use Rattle.world_commands.specs.Done.{session_of}
use Rattle.world_commands.proofs.Cut.{in-doing, in-line}
use Rattle.run_session.proofs.Installs.{why-not, why-none, refused_told}
use Rattle.run_session.proofs.Leaving.{refused-missing, install-unrefused}
use Rattle.run_session.proofs.installing.install_idle.Goals as goal

pub install_adoptable-requires-clause-may : goal.install_adoptable-requires-clause-may
install_adoptable-requires-clause-may c = why-none (refusal_cause c.args.w.now c.args.l.now) c.install_refused.ensures c.in-None.is

pub returns-in-Some-clause-told : goal.returns-in-Some-clause-told
returns-in-Some-clause-told c =
    let w = c.args.w.now in
    let l = c.args.l.now in
    on_ok_weaker c.refused_text.result
    (refused_told w l c.args.tries c.in-Some.cause c.install_refused.result c.refused_text.new.printed c.requires.idle c.install_refused.ensures c.in-Some.is) c.refused_text.ensures.text

pub returns-in-Some-clause-err : goal.returns-in-Some-clause-err
returns-in-Some-clause-err c = on-any c.refused_text.result (part-none c.args.w.now c.args.w.now (install c.args.w.now c.args.tries (Some c.args.l.now)).acts refl)

pub returns-in-Some-clause-unrefused : goal.returns-in-Some-clause-unrefused
returns-in-Some-clause-unrefused c =
    let may : may_install c.args.w.now c.args.l.now ≡ false = (why-not c.install_refused.ensures c.in-Some.is).0 in
    in-line c.refused_text.result (λ e. (made : Option LastMap) → HidesNoRefusal (session_of c.args.w.now made (Some c.args.l.now)) (Install c.args.tries) c.args.w.now e)
    (refused-missing c.args.w.now c.args.l.now c.args.tries c.requires.idle may) c.refused_text.ensures.err

pub returns-in-None-clause-unrefused : goal.returns-in-None-clause-unrefused
returns-in-None-clause-unrefused c =
    let may : may_install c.args.w.now c.args.l.now ≡ true = why-none (refusal_cause c.args.w.now c.args.l.now) c.install_refused.ensures c.in-None.is in
    in-doing c.install_adoptable.result (λ e. (made : Option LastMap) → HidesNoRefusal (session_of c.args.w.now made (Some c.args.l.now)) (Install c.args.tries) c.install_adoptable.new.w e)
    (install-unrefused c.args.w.now c.install_adoptable.new.w c.args.l.now c.args.tries c.requires.idle may) c.install_adoptable.ensures.doing
