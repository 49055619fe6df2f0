use Rattle.std.proofs.Common.{ap, subst, sym}
use Rattle.run_defs.specs.Session.{SessionState}
use Rattle.promise_laws.specs.CutShort.{IsCutShort}
use Rattle.world_drain.proofs.Later.{on-any}
use Rattle.world_commands.specs.declared.out_of_memory.OutOfMemory.TheVariants.{InDoing}
use Rattle.world_commands.specs.Cut.{HidesNoRefusal}
use Rattle.world_commands.proofs.Cut.{in-doing}
use Rattle.run_session.proofs.Beside.{duo_cut}
use Rattle.run_session.proofs.Going.{goes-as}
use Rattle.run_session.proofs.Leaving.{duo-unrefused}
use Rattle.run_session.proofs.held.Held.obey.Goals as goal

pub returns-in-Duo-clause-unrefused : goal.returns-in-Duo-clause-unrefused
returns-in-Duo-clause-unrefused c =
    let v = c.obey_duo.new.self.world in
    in-doing c.obey_duo.result (HidesNoRefusal c.args.self.now c.args.c.now v) (subst (λ d. HidesNoRefusal c.args.self.now d v InDoing) (sym c.in-Duo.is) (duo-unrefused c.args.self.now _ v)) c.obey_duo.ensures.doing

pub returns-in-Duo-clause-cut : goal.returns-in-Duo-clause-cut
returns-in-Duo-clause-cut c =
    on-any c.obey_duo.result
    (subst (λ d. IsCutShort c.args.self.now d c.obey_duo.new.self.world) (sym c.in-Duo.is)
    (duo_cut c.args.self.now _ c.obey_duo.new.self.world (ap (λ (x : SessionState). x.world) c.obey_duo.ensures.rest)))

pub returns-in-Duo-clause-cables : goal.returns-in-Duo-clause-cables
returns-in-Duo-clause-cables c = goes-as c.args.self.now.world c.obey_duo.new.self.world (ap (λ (x : SessionState). x.world) c.obey_duo.ensures.rest)
