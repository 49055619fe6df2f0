use Rattle.std.proofs.Common.{◌≡◌, IfOk, subst}
use Rattle.duo_defs.specs.Step.{step}
use Rattle.duo_defs.specs.Theorem.{IsReached}
use Rattle.duo_laws.proofs.Waiting.{all-waiting}
use Rattle.gm_restart.proofs.Reached.{reached-after, sent-right, unsure-right}
use Rattle.gm_restart.proofs.duo.Duo.step.Goals as goal

pub step-requires-clause-waiting : goal.step-requires-clause-waiting
step-requires-clause-waiting c = all-waiting c.self.inside.ends c.self.invariant

pub invariant_of-self : goal.invariant_of-self
invariant_of-self c = reached-after c.self.inside.ends c.step.new.self c.args.e c.step.result c.self.invariant c.requires c.step.ensures.ok c.step.ensures.err

pub returns-clause-sent : goal.returns-clause-sent
returns-clause-sent c =
    sent-right c.args.self.now c.step.new.self c.args.e c.step.result (subst IsReached c.self.view_is c.self.invariant)
    (subst (λ d. IfOk c.step.result (λ k. step d c.args.e ≡ (k, c.step.new.self))) c.self.view_is c.step.ensures.ok)

pub returns-clause-unsure : goal.returns-clause-unsure
returns-clause-unsure c =
    unsure-right c.args.self.now c.step.new.self c.args.e c.step.result (subst IsReached c.self.view_is c.self.invariant)
    (subst (λ d. IfOk c.step.result (λ k. step d c.args.e ≡ (k, c.step.new.self))) c.self.view_is c.step.ensures.ok)
