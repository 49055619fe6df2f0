use Rattle.std.proofs.Common.{refl, ap, sym, ◌∙◌, length, subst}
use Rattle.world_defs.specs.declared.event.Event.TheVariants.{Advance}
use Rattle.world_defs.specs.World.{WorldState, fabric_of, host_count}
use Rattle.fab_world.specs.Held.{IsOfHosts}
use Rattle.fab_world.proofs.Answers.{if-ok}
use Rattle.fab_world.proofs.Arriving.{effect-hosts}
use Rattle.fab_world.proofs.Following.{still-cables}
use Rattle.fab_world.proofs.Stepped.{IsStepped, stepped, IsStill, still}
use Rattle.fab_world.proofs.world.World.advance.Goals as goal

-- what the event leaves
left : (c : goal.After-advance) → IsStepped c.self.inside.machine c.advance.new.self
left c =
    stepped c.self.inside.machine c.advance.new.self (Advance c.args.c) c.advance.result tt c.self.invariant.0 c.self.invariant.2 c.advance.ensures.ok c.advance.ensures.err

stays : (c : goal.After-advance) → IsStill c.self.inside.machine c.advance.new.self
stays c =
    still c.self.inside.machine c.advance.new.self c.self.invariant.0 (left c).moment (left c).reached
    (still-cables c.self.inside.machine c.advance.new.self (Advance c.args.c) c.advance.result refl c.advance.ensures.ok c.advance.ensures.err)

pub invariant_of-self : goal.invariant_of-self
invariant_of-self c = ((left c).moment, c.self.invariant.1 ∙ sym (stays c).fabric, (left c).reached)

pub returns-clause-host : goal.returns-clause-host
returns-clause-host c =
    let w : WorldState = c.self.inside.machine in
    if-ok c.advance.result
    (λ x h. subst (λ n. IsOfHosts n x) (ap host_count c.self.view_is)
    (subst (IsOfHosts (host_count w)) (ap (λ p. p.0) h) (effect-hosts w (Advance c.args.c) c.self.invariant.0 tt)))
    c.advance.ensures.ok

pub returns-clause-cables : goal.returns-clause-cables
returns-clause-cables c = (stays c).cables ∙ ap (λ (v : WorldState). v.links.cables) c.self.view_is

pub returns-clause-fabric : goal.returns-clause-fabric
returns-clause-fabric c = (stays c).fabric ∙ ap fabric_of c.self.view_is

pub returns-clause-hosts : goal.returns-clause-hosts
returns-clause-hosts c = (stays c).hosts ∙ ap host_count c.self.view_is

pub returns-clause-channels : goal.returns-clause-channels
returns-clause-channels c = (stays c).channels ∙ ap (λ (v : WorldState). length v.links.channels) c.self.view_is

pub returns-clause-adopted : goal.returns-clause-adopted
returns-clause-adopted c = (left c).adopted ∙ ap (λ (v : WorldState). v.adopted) c.self.view_is
