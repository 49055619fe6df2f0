use Rattle.std.proofs.Common.{◌≡◌, OnErr, OnOk, subst}
use Rattle.std.specs.Prelude.{IfErr}
use Rattle.run_defs.specs.Session.{SessionState}
use Rattle.promise_laws.specs.CutShort.{IsCutShort}
use Rattle.promise_laws.specs.Duos.{IsDuoLeft}
use Rattle.world_commands.specs.Cut.{HidesNoRefusal}
use Rattle.run_session.specs.Kept.{GoesOn}
use Rattle.run_session.specs.Obeyed.{IsObeyed}
use Rattle.run_session.proofs.session.Session.perform.Goals as goal

pub returns-clause-ok : goal.returns-clause-ok
returns-clause-ok c =
    let held = c.deref_mut.ensures.value in
    let seen = c.self.view_is in
    let same : c.deref_mut.result.now ≡ c.args.self.now = cc in
    subst (λ (x : SessionState). OnOk c.obey.result (IsObeyed x c.args.c.now c.obey.new.self c.obey.new.printed)) same c.obey.ensures.obeyed

pub returns-clause-cables : goal.returns-clause-cables
returns-clause-cables c =
    let held = c.deref_mut.ensures.value in
    let seen = c.self.view_is in
    let same : c.deref_mut.result.now ≡ c.args.self.now = cc in
    subst (λ (x : SessionState). GoesOn x.world c.obey.new.self.world) same c.obey.ensures.cables

pub returns-clause-cut : goal.returns-clause-cut
returns-clause-cut c =
    let held = c.deref_mut.ensures.value in
    let seen = c.self.view_is in
    let same : c.deref_mut.result.now ≡ c.args.self.now = cc in
    subst (λ (x : SessionState). OnErr c.obey.result (IsCutShort x c.args.c.now c.obey.new.self.world)) same c.obey.ensures.cut

pub returns-clause-unrefused : goal.returns-clause-unrefused
returns-clause-unrefused c =
    let held = c.deref_mut.ensures.value in
    let seen = c.self.view_is in
    let same : c.deref_mut.result.now ≡ c.args.self.now = cc in
    subst (λ (x : SessionState). IfErr c.obey.result (HidesNoRefusal x c.args.c.now c.obey.new.self.world)) same c.obey.ensures.unrefused

pub returns-clause-duo : goal.returns-clause-duo
returns-clause-duo c =
    let held = c.deref_mut.ensures.value in
    let seen = c.self.view_is in
    let same : c.deref_mut.result.now ≡ c.args.self.now = cc in
    subst (λ (x : SessionState). OnErr c.obey.result (IsDuoLeft x c.args.c.now c.obey.new.self.duo)) same c.obey.ensures.duo
