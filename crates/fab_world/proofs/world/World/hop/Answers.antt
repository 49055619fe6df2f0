use Rattle.std.proofs.Common.{ap, sym, subst, ◌∙◌, length}
use Rattle.world_defs.specs.World.{WorldState, fabric_of, host_count}
use Rattle.fab_world.specs.Hop.{IsHopIn}
use Rattle.fab_world.proofs.Stepped.{IsStill}
use Rattle.fab_world.proofs.Going.{hop-still}
use Rattle.fab_world.proofs.world.World.hop.Goals as goal

-- what the call leaves
left : (c : goal.After-hop) → IsStill c.self.inside.machine c.hop.new.self
left c = hop-still c.self.inside.machine c.hop.new.self c.args.c c.hop.result c.self.invariant.0 c.self.invariant.2 c.hop.ensures

pub invariant_of-self : goal.invariant_of-self
invariant_of-self c = ((left c).moment, c.self.invariant.1 ∙ sym (left c).fabric, (left c).reached)

pub returns-clause-hop : goal.returns-clause-hop
returns-clause-hop c = subst (λ u. IsHopIn u c.args.c c.hop.result c.hop.new.self) c.self.view_is c.hop.ensures

pub returns-clause-cables : goal.returns-clause-cables
returns-clause-cables c = (left c).cables ∙ ap (λ (v : WorldState). v.links.cables) c.self.view_is

pub returns-clause-fabric : goal.returns-clause-fabric
returns-clause-fabric c = (left c).fabric ∙ ap fabric_of c.self.view_is

pub returns-clause-hosts : goal.returns-clause-hosts
returns-clause-hosts c = (left c).hosts ∙ ap host_count c.self.view_is

pub returns-clause-channels : goal.returns-clause-channels
returns-clause-channels c = (left c).channels ∙ ap (λ (v : WorldState). length v.links.channels) c.self.view_is
