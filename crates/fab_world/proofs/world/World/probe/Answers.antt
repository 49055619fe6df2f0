use Rattle.std.proofs.Common.{ap, sym, ◌∙◌}
use Rattle.world_defs.specs.World.{WorldState, host_count}
use Rattle.fab_world.proofs.Stepped.{IsStill}
use Rattle.fab_world.proofs.Going.{probe-still}
use Rattle.fab_world.proofs.world.World.probe.Goals as goal

-- what the call leaves
left : (c : goal.After-probe) → IsStill c.self.inside.machine c.probe.new.self
left c =
    probe-still c.self.inside.machine c.probe.new.self c.args.host c.args.walk.now c.args.looped c.probe.result c.self.invariant.0 c.self.invariant.2 c.probe.ensures.carried c.probe.ensures.none c.probe.ensures.err

pub invariant_of-self : goal.invariant_of-self
invariant_of-self c = ((left c).moment, c.self.invariant.1 ∙ sym (left c).fabric, (left c).reached)

pub returns-clause-cables : goal.returns-clause-cables
returns-clause-cables c = (left c).cables ∙ ap (λ (v : WorldState). v.links.cables) c.self.view_is

pub returns-clause-hosts : goal.returns-clause-hosts
returns-clause-hosts c = (left c).hosts ∙ ap host_count c.self.view_is
