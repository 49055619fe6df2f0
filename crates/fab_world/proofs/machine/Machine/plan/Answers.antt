use Rattle.std.proofs.Common.{ap, sym, ◌∙◌}
use Rattle.world_defs.specs.World.{planned}
use Rattle.fab_world.specs.Held.{world_of}
use Rattle.fab_world.proofs.Answers.{if-ok}
use Rattle.fab_world.proofs.machine.Machine.plan.Goals as goal

pub returns-clause-ok : goal.returns-clause-ok
returns-clause-ok c =
    if-ok c.plan.result (λ number h. ap (λ w. planned w c.args.ahead c.args.fault) (sym c.self.view_is) ∙ h (world_of c.self.inside.links c.self.inside.hosts.items c.self.inside.adopted)) c.plan.ensures.ok
