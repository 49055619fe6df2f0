use Rattle.std.proofs.Common.{length, refl, ap, subst, ◌∙◌}
use Rattle.world_defs.specs.Later.{OnlyPulled}
use Rattle.world_defs.specs.declared.event.Event.TheVariants.{Inject}
use Rattle.world_defs.specs.World.{WorldState, host_count}
use Rattle.fab_world.proofs.Stepped.{IsStepped, stepped, only-pulled, same-channels}
use Rattle.fab_world.proofs.world.World.inject.Goals as goal

-- what the event leaves
left : (c : goal.After-inject) → IsStepped c.self.inside.machine c.inject.new.machine
left c =
    stepped c.self.inside.machine c.inject.new.machine (Inject c.args.host) c.inject.result tt c.self.invariant.0 c.self.invariant.2 c.inject.ensures.ok c.inject.ensures.err

pulled : (c : goal.After-inject) → OnlyPulled c.self.inside.machine.links.cables c.inject.new.machine.links.cables
pulled c = only-pulled c.self.inside.machine c.inject.new.machine (Inject c.args.host) c.inject.result refl c.inject.ensures.ok c.inject.ensures.err

pub invariant_of-self : goal.invariant_of-self
invariant_of-self c = ((left c).moment, c.inject.ensures.follows, (left c).reached)

pub returns-clause-cables : goal.returns-clause-cables
returns-clause-cables c = subst (λ (v : WorldState). OnlyPulled v.links.cables c.inject.new.machine.links.cables) c.self.view_is (pulled c)

pub returns-clause-hosts : goal.returns-clause-hosts
returns-clause-hosts c = (left c).hosts ∙ ap host_count c.self.view_is

pub returns-clause-channels : goal.returns-clause-channels
returns-clause-channels c =
    same-channels c.self.inside.machine c.inject.new.machine c.self.invariant.0 (left c).moment (pulled c) ∙ ap (λ (v : WorldState). length v.links.channels) c.self.view_is

pub returns-clause-adopted : goal.returns-clause-adopted
returns-clause-adopted c = (left c).adopted ∙ ap (λ v. v.adopted) c.self.view_is
