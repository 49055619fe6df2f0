use Rattle.std.proofs.Common.{refl, subst}
use Rattle.world_defs.specs.World.{WorldState}
use Rattle.fab_world.specs.Held.{world_of}
use Rattle.fab_world.specs.Hop.{IsHopIn}
use Rattle.fab_world.proofs.Hopping.{hop-in}
use Rattle.fab_world.proofs.machine.Machine.hop.Goals as goal

pub returns : goal.returns
returns c =
    let w : WorldState = world_of c.self.inside.links c.self.inside.hosts.items c.self.inside.adopted in
    let v : WorldState = world_of c.hop.new.self c.self.inside.hosts.items c.self.inside.adopted in
    subst (λ u. IsHopIn u c.args.c c.hop.result v) c.self.view_is (hop-in w v c.args.c c.hop.result c.hop.new.self c.hop.ensures refl)
