use Rattle.std.proofs.Common.{ap, sym, subst, ◌∙◌}
use Rattle.world_defs.specs.World.{WorldState, fabric_of, host_count}
use Rattle.fab_world.specs.Hop.{IsRunIn}
use Rattle.fab_world.proofs.Stepped.{IsStill}
use Rattle.fab_world.proofs.Going.{run-still}
use Rattle.fab_world.proofs.world.World.run.Goals as goal

-- what the call leaves
left : (c : goal.After-run) → IsStill c.self.inside.machine c.run.new.self
left c = run-still c.self.inside.machine c.run.new.self c.args.c c.run.result.hops c.run.result.at c.self.invariant.0 c.self.invariant.2 c.run.ensures.run

pub invariant_of-self : goal.invariant_of-self
invariant_of-self c = ((left c).moment, c.self.invariant.1 ∙ sym (left c).fabric, (left c).reached)

pub returns-clause-run : goal.returns-clause-run
returns-clause-run c = subst (λ u. IsRunIn u c.args.c c.run.result.hops c.run.result.at c.run.new.self) c.self.view_is c.run.ensures.run

pub returns-clause-cables : goal.returns-clause-cables
returns-clause-cables c = (left c).cables ∙ ap (λ (v : WorldState). v.links.cables) c.self.view_is

pub returns-clause-fabric : goal.returns-clause-fabric
returns-clause-fabric c = (left c).fabric ∙ ap fabric_of c.self.view_is

pub returns-clause-hosts : goal.returns-clause-hosts
returns-clause-hosts c = (left c).hosts ∙ ap host_count c.self.view_is
