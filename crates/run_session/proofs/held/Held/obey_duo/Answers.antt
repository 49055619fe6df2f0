use Rattle.std.proofs.Common.{OnOk, OnErr, subst}
use Rattle.std.proofs.lemmas.Result.{on_ok_weaker}
use Rattle.run_defs.specs.Duos.{beside}
use Rattle.run_defs.specs.Session.{SessionState}
use Rattle.run_defs.specs.declared.command.Command.{Command}
use Rattle.promise_laws.specs.Duos.{IsDuoLeft}
use Rattle.world_commands.specs.Done.{session_of}
use Rattle.world_drain.proofs.Later.{on-err}
use Rattle.run_session.specs.Holding.{world_in}
use Rattle.run_session.specs.Obeyed.{IsObeyed}
use Rattle.run_session.proofs.Beside.{duo_obeyed, duo_left}
use Rattle.run_session.proofs.held.Held.obey_duo.Goals as goal

pub returns-clause-obeyed : goal.returns-clause-obeyed
returns-clause-obeyed c =
    let s : SessionState = beside (session_of (world_in c.self.inside.world) c.self.inside.last_map c.self.inside.last_routes) c.self.inside.duo in
    let hosts = c.duo_text.new.hosts in
    let p = c.duo_text.new.printed in
    subst (λ (x : SessionState). OnOk c.duo_text.result (IsObeyed x (Command.Duo c.args.e) (beside s hosts) p)) c.self.view_is
    (on_ok_weaker c.duo_text.result (duo_obeyed s c.args.e hosts p) c.duo_text.ensures.done)

pub returns-clause-duo : goal.returns-clause-duo
returns-clause-duo c =
    let s : SessionState = beside (session_of (world_in c.self.inside.world) c.self.inside.last_map c.self.inside.last_routes) c.self.inside.duo in
    let hosts = c.duo_text.new.hosts in
    subst (λ (x : SessionState). OnErr c.duo_text.result (IsDuoLeft x (Command.Duo c.args.e) hosts)) c.self.view_is
    (on-err c.duo_text.result (duo_left s c.args.e hosts) c.duo_text.ensures.err)
