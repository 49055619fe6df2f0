use Rattle.std.proofs.Common.{◌≡◌, ◌≤◌, false, ap, sym, subst, ◌∙◌, length}
use Rattle.world_defs.specs.History.{fabric_at}
use Rattle.world_defs.specs.Later.{IsLater}
use Rattle.world_defs.specs.World.{WorldState, host_count}
use Rattle.world_defs.specs.Step.{step}
use Rattle.fab_world.specs.Held.{IsOfHosts, IsPolledOfHosts, is_refusal}
use Rattle.message_laws.specs.Untouched.{HandsBackBy}
use Rattle.message_laws.proofs.Buffers.{closed-untouched}
use Rattle.fab_world.proofs.Answers.{if-ok, if-ok-both, on-err}
use Rattle.fab_world.proofs.Arriving.{effect-hosts}
use Rattle.fab_world.proofs.Refusing.{unrefused}
use Rattle.fab_world.proofs.Stepped.{IsStepped, stepped}
use Rattle.fab_world.proofs.world.World.step.Goals as goal

-- what the step leaves
left : (c : goal.Joined-e) → IsStepped c.self.inside.machine c.step.new.machine
left c =
    stepped c.self.inside.machine c.step.new.machine c.args.e c.step.result c.flips_have_a_byte.ensures c.self.invariant.0 c.self.invariant.2 c.step.ensures.ok c.step.ensures.err

pub invariant_of-self : goal.invariant_of-self
invariant_of-self c = ((left c).moment, c.step.ensures.follows, (left c).reached)

pub returns-clause-host : goal.returns-clause-host
returns-clause-host c =
    let w : WorldState = c.self.inside.machine in
    if-ok-both c.step.result
    (λ x h polled. subst (λ n. IsOfHosts n x) (ap host_count c.self.view_is)
    (subst (IsOfHosts (host_count w)) (ap (λ p. p.0) h) (effect-hosts w c.args.e c.self.invariant.0 (subst (IsPolledOfHosts (host_count w) c.args.e) (sym (ap (λ p. p.0) h)) polled))))
    c.step.ensures.ok c.step.ensures.polled

pub returns-clause-back : goal.returns-clause-back
returns-clause-back c =
    let w : WorldState = c.self.inside.machine in
    if-ok c.step.result
    (λ x now. subst (λ v. HandsBackBy v c.args.e x) c.self.view_is (subst (HandsBackBy w c.args.e) (ap (λ p. p.0) now) (closed-untouched (fabric_at w.links.cables 0) w c.self.invariant.2 c.args.e)))
    c.step.ensures.ok

pub returns-clause-wanting : goal.returns-clause-wanting
returns-clause-wanting c =
    on-err c.step.result (λ h. subst (λ v. is_refusal (step v c.args.e).0 ≡ false) c.self.view_is (unrefused c.self.inside.machine c.args.e h)) c.step.ensures.wanting

pub returns-clause-cables : goal.returns-clause-cables
returns-clause-cables c = subst (λ (v : WorldState). IsLater v.links.cables c.step.new.machine.links.cables) c.self.view_is (left c).cables

pub returns-clause-hosts : goal.returns-clause-hosts
returns-clause-hosts c = (left c).hosts ∙ ap host_count c.self.view_is

pub returns-clause-channels : goal.returns-clause-channels
returns-clause-channels c = subst (λ (v : WorldState). length v.links.channels ≤ length c.step.new.machine.links.channels) c.self.view_is (left c).channels

pub returns-clause-adopted : goal.returns-clause-adopted
returns-clause-adopted c = (left c).adopted ∙ ap (λ v. v.adopted) c.self.view_is
