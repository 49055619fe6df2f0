use Rattle.std.proofs.Common.{◌≡◌, Option, OnErr, refl, sym, ap, subst}
use Rattle.std.proofs.lemmas.Result.{on_ok_weaker}
use Rattle.std.specs.Prelude.{IfErr}
use Rattle.world_defs.specs.World.{WorldState}
use Rattle.run_defs.specs.Outcome.{outcome}
use Rattle.run_defs.specs.declared.command.Command.TheVariants.{Walk, Install, Settle}
use Rattle.run_defs.specs.Session.{SessionState, LastMap, LastRoutes}
use Rattle.promise_laws.specs.CutShort.{IsCutShort}
use Rattle.promise_laws.proofs.CutShort.{cut_unchanged, cut_settled, cut_installed}
use Rattle.world_commands.specs.Cut.{HidesNoRefusal, IsLeft}
use Rattle.world_commands.specs.Done.{session_of}
use Rattle.world_commands.proofs.Answered.{if-err, if-err-on}
use Rattle.world_commands.proofs.Cut.{in-doing, in-line}
use Rattle.world_commands.proofs.Done.{one-event}
use Rattle.world_drain.proofs.Later.{on-any, on-err}
use Rattle.run_session.proofs.Cutting.{cut_one}
use Rattle.run_session.proofs.Going.{goes-later}
use Rattle.run_session.proofs.Leaving.{none-unrefused, one-unrefused, busy-missing}
use Rattle.run_session.proofs.Obeying.{done_so}
use Rattle.run_session.proofs.commands.obey_here.Goals as goal

pub do_one-requires-clause-one_event : goal.do_one-requires-clause-one_event
do_one-requires-clause-one_event c = one-event c.args.c.now c.in_default.not-Walk c.in_default.not-Map c.in_default.not-Circuit c.in_default.not-Routes c.in_default.not-Install c.in_default.not-Settle c.in_default.not-Revoke c.requires.other

pub returns-in-Map-clause-cut : goal.returns-in-Map-clause-cut
returns-in-Map-clause-cut c = on-any c.busy_text.result (cut_unchanged (session_of c.args.w.now c.args.last_map.now c.args.last_routes.now) c.args.c.now c.args.w.now refl)

pub returns-in-Circuit-clause-cut : goal.returns-in-Circuit-clause-cut
returns-in-Circuit-clause-cut c = on-any c.circuit.result (cut_unchanged (session_of c.args.w.now c.args.last_map.now c.args.last_routes.now) c.args.c.now c.args.w.now refl)

pub returns-in-Routes-clause-cut : goal.returns-in-Routes-clause-cut
returns-in-Routes-clause-cut c = on-any c.routes.result (cut_unchanged (session_of c.args.w.now c.args.last_map.now c.args.last_routes.now) c.args.c.now c.args.w.now refl)

pub returns-in-Install-clause-cut : goal.returns-in-Install-clause-cut
returns-in-Install-clause-cut c =
    let s : SessionState = session_of c.args.w.now c.args.last_map.now c.args.last_routes.now in
    subst (λ d. OnErr c.install_text.result (IsCutShort s d c.install_text.new.w)) (sym c.in-Install.is)
    (on-err c.install_text.result (cut_installed s _ c.install_text.new.w) c.install_text.ensures.err)

pub returns-in-Settle-clause-cut : goal.returns-in-Settle-clause-cut
returns-in-Settle-clause-cut c =
    let s : SessionState = session_of c.args.w.now c.args.last_map.now c.args.last_routes.now in
    subst (λ d. OnErr c.settle_text.result (IsCutShort s d c.settle_text.new.w)) (sym c.in-Settle.is)
    (on-err c.settle_text.result (cut_settled s c.settle_text.new.w) c.settle_text.ensures.err)

pub returns-in-Revoke-clause-cables : goal.returns-in-Revoke-clause-cables
returns-in-Revoke-clause-cables c = goes-later c.args.w.now c.revoke.new.w c.revoke.ensures.cables

pub returns-in-Revoke-clause-cut : goal.returns-in-Revoke-clause-cut
returns-in-Revoke-clause-cut c =
    let w : WorldState = c.args.w.now in
    let v : WorldState = c.revoke.new.w in
    let made = c.args.last_map.now in
    let found = c.args.last_routes.now in
    if-err-on c.revoke.result (IsLeft c.args.c.now w v) (IsCutShort (session_of w made found) c.args.c.now v) (cut_one w v made found c.args.c.now c.requires.busy)
    (subst (λ d. IfErr c.revoke.result (λ e. IsLeft d w v e)) (sym c.in-Revoke.is) c.revoke.ensures.err)

pub returns-in-Revoke-clause-unrefused : goal.returns-in-Revoke-clause-unrefused
returns-in-Revoke-clause-unrefused c =
    let w : WorldState = c.args.w.now in
    let v : WorldState = c.revoke.new.w in
    let made = c.args.last_map.now in
    let found = c.args.last_routes.now in
    if-err c.revoke.result (IsLeft c.args.c.now w v) (HidesNoRefusal (session_of w made found) c.args.c.now v) (one-unrefused w v made found c.args.c.now)
    (subst (λ d. IfErr c.revoke.result (λ e. IsLeft d w v e)) (sym c.in-Revoke.is) c.revoke.ensures.err)

pub returns-in-Walk-clause-cut : goal.returns-in-Walk-clause-cut
returns-in-Walk-clause-cut c =
    let w : WorldState = c.args.w.now in
    let made = c.args.last_map.now in
    let found = c.args.last_routes.now in
    let same : Walk c.in-Walk.host c.turns.result.now ≡ c.args.c.now = cc (c.in-Walk.is, c.turns.ensures.value) in
    if-err-on c.walk_text.result (IsLeft c.args.c.now w w) (IsCutShort (session_of w made found) c.args.c.now w) (cut_one w w made found c.args.c.now c.requires.busy)
    (subst (λ d. IfErr c.walk_text.result (λ e. IsLeft d w w e)) same c.walk_text.ensures.err)

pub returns-in-Walk-clause-unrefused : goal.returns-in-Walk-clause-unrefused
returns-in-Walk-clause-unrefused c =
    let w : WorldState = c.args.w.now in
    let made = c.args.last_map.now in
    let found = c.args.last_routes.now in
    let same : Walk c.in-Walk.host c.turns.result.now ≡ c.args.c.now = cc (c.in-Walk.is, c.turns.ensures.value) in
    if-err c.walk_text.result (IsLeft c.args.c.now w w) (HidesNoRefusal (session_of w made found) c.args.c.now w) (one-unrefused w w made found c.args.c.now)
    (subst (λ d. IfErr c.walk_text.result (λ e. IsLeft d w w e)) same c.walk_text.ensures.err)

pub returns-in-Map-clause-unrefused : goal.returns-in-Map-clause-unrefused
returns-in-Map-clause-unrefused c =
    let s : SessionState = session_of c.args.w.now c.args.last_map.now c.args.last_routes.now in
    in-line c.busy_text.result (HidesNoRefusal s c.args.c.now c.args.w.now)
    (busy-missing c.args.w.now c.args.last_map.now c.args.last_routes.now c.args.c.now _ _ _ c.in-Map.is c.requires.busy) c.busy_text.ensures.err

pub returns-in-Circuit-clause-unrefused : goal.returns-in-Circuit-clause-unrefused
returns-in-Circuit-clause-unrefused c =
    let s : SessionState = session_of c.args.w.now c.args.last_map.now c.args.last_routes.now in
    in-doing c.circuit.result (HidesNoRefusal s c.args.c.now c.args.w.now) (none-unrefused s c.args.c.now c.args.w.now (ap (outcome s) c.in-Circuit.is)) c.circuit.ensures.doing

pub returns-in-Routes-clause-unrefused : goal.returns-in-Routes-clause-unrefused
returns-in-Routes-clause-unrefused c =
    let s : SessionState = session_of c.args.w.now c.args.last_map.now c.args.last_routes.now in
    subst (λ d. IfErr c.routes.result (HidesNoRefusal s d c.args.w.now)) (sym c.in-Routes.is) c.routes.ensures.unrefused

pub returns-in-Install-clause-unrefused : goal.returns-in-Install-clause-unrefused
returns-in-Install-clause-unrefused c =
    let made = c.args.last_map.now in
    let s : SessionState = session_of c.args.w.now made c.args.last_routes.now in
    subst (λ d. IfErr c.install_text.result (HidesNoRefusal s d c.install_text.new.w)) (sym c.in-Install.is)
    (if-err c.install_text.result (λ e. (m : Option LastMap) → HidesNoRefusal (session_of c.args.w.now m c.args.last_routes.now) (Install c.in-Install.tries) c.install_text.new.w e) (HidesNoRefusal s (Install c.in-Install.tries) c.install_text.new.w) (λ e k. k made) c.install_text.ensures.unrefused)

pub returns-in-Settle-clause-unrefused : goal.returns-in-Settle-clause-unrefused
returns-in-Settle-clause-unrefused c =
    let made = c.args.last_map.now in
    let found = c.args.last_routes.now in
    let s : SessionState = session_of c.args.w.now made found in
    subst (λ d. IfErr c.settle_text.result (HidesNoRefusal s d c.settle_text.new.w)) (sym c.in-Settle.is)
    (if-err c.settle_text.result (λ e. (m : Option LastMap) → (f : Option LastRoutes) → HidesNoRefusal (session_of c.args.w.now m f) Settle c.settle_text.new.w e) (HidesNoRefusal s Settle c.settle_text.new.w) (λ e k. k made found) c.settle_text.ensures.unrefused)

pub returns-in_default : goal.returns-in_default
returns-in_default c =
    let w : WorldState = c.args.w.now in
    let v : WorldState = c.do_one.new.w in
    let made = c.args.last_map.now in
    let found = c.args.last_routes.now in
    record {
      obeyed = on_ok_weaker c.do_one.result (λ done. done_so c.args.c.now c.args.c.now w v made found c.do_one.new.printed done refl) c.do_one.ensures.done;
      routes = c.requires.routes;
      links = c.requires.links;
      cables = goes-later w v c.do_one.ensures.cables;
      err = on-any c.do_one.result refl;
      cut = if-err-on c.do_one.result (IsLeft c.args.c.now w v) (IsCutShort (session_of w made found) c.args.c.now v) (cut_one w v made found c.args.c.now c.requires.busy) c.do_one.ensures.err;
      unrefused = if-err c.do_one.result (IsLeft c.args.c.now w v) (HidesNoRefusal (session_of w made found) c.args.c.now v) (one-unrefused w v made found c.args.c.now) c.do_one.ensures.err;
    }
