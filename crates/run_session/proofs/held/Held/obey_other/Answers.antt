use Rattle.std.proofs.Common.{OnOk, OnErr, subst}
use Rattle.std.proofs.lemmas.Result.{on_ok_weaker}
use Rattle.std.specs.Prelude.{IfErr}
use Rattle.run_defs.specs.Duos.{beside}
use Rattle.run_defs.specs.Session.{SessionState}
use Rattle.promise_laws.specs.CutShort.{IsCutShort}
use Rattle.world_commands.specs.Cut.{HidesNoRefusal}
use Rattle.world_commands.specs.Done.{session_of}
use Rattle.world_commands.proofs.Answered.{if-err}
use Rattle.world_drain.proofs.Later.{on-err}
use Rattle.run_session.specs.Holding.{world_in}
use Rattle.run_session.specs.Kept.{GoesOn}
use Rattle.run_session.specs.Obeyed.{IsObeyed}
use Rattle.run_session.proofs.Beside.{beside_obeyed, beside_cut}
use Rattle.run_session.proofs.Leaving.{beside-unrefused}
use Rattle.run_session.proofs.held.Held.obey_other.Goals as goal

pub returns-clause-obeyed : goal.returns-clause-obeyed
returns-clause-obeyed c =
    let s : SessionState = session_of (world_in c.self.inside.world) c.self.inside.last_map c.self.inside.last_routes in
    let next : SessionState = session_of (world_in c.obey_parts.new.slot) c.obey_parts.new.last_map c.obey_parts.new.last_routes in
    let hosts = c.self.inside.duo in
    let p = c.obey_parts.new.printed in
    subst (λ (x : SessionState). OnOk c.obey_parts.result (IsObeyed x c.args.c.now (beside next hosts) p)) c.self.view_is
    (on_ok_weaker c.obey_parts.result (beside_obeyed s next c.args.c.now p hosts c.requires.other) c.obey_parts.ensures.obeyed)

pub returns-clause-unrefused : goal.returns-clause-unrefused
returns-clause-unrefused c =
    let s : SessionState = session_of (world_in c.self.inside.world) c.self.inside.last_map c.self.inside.last_routes in
    let v = world_in c.obey_parts.new.slot in
    subst (λ (x : SessionState). IfErr c.obey_parts.result (HidesNoRefusal x c.args.c.now v)) c.self.view_is
    (if-err c.obey_parts.result (HidesNoRefusal s c.args.c.now v) (HidesNoRefusal (beside s c.self.inside.duo) c.args.c.now v) (beside-unrefused s c.args.c.now v c.self.inside.duo c.requires.other) c.obey_parts.ensures.unrefused)

pub returns-clause-cut : goal.returns-clause-cut
returns-clause-cut c =
    let s : SessionState = session_of (world_in c.self.inside.world) c.self.inside.last_map c.self.inside.last_routes in
    subst (λ (x : SessionState). OnErr c.obey_parts.result (IsCutShort x c.args.c.now (world_in c.obey_parts.new.slot))) c.self.view_is
    (on-err c.obey_parts.result (beside_cut s c.args.c.now (world_in c.obey_parts.new.slot) c.self.inside.duo) c.obey_parts.ensures.cut)

pub returns-clause-cables : goal.returns-clause-cables
returns-clause-cables c = subst (λ (x : SessionState). GoesOn x.world (world_in c.obey_parts.new.slot)) c.self.view_is c.obey_parts.ensures.cables
