use Rattle.std.proofs.Common.{ap, subst}
use Rattle.world_defs.specs.World.{WorldState}
use Rattle.fab_world.specs.Held.{world_of}
use Rattle.fab_world.specs.Hop.{IsRunIn}
use Rattle.fab_world.proofs.machine.Machine.run.Goals as goal

pub returns-clause-run : goal.returns-clause-run
returns-clause-run c =
    let v : WorldState = world_of c.run.new.self c.self.inside.hosts.items c.self.inside.adopted in
    subst (λ u. IsRunIn u c.args.c c.run.result.hops c.run.result.at v) c.self.view_is
    (c.run.ensures.run.0, ap (λ p. world_of p c.self.inside.hosts.items c.self.inside.adopted) c.run.ensures.run.1)
