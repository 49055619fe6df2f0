use Rattle.std.proofs.Common.{◌≡◌, ap, subst, refl, ◌∙◌}
use Rattle.std.specs.Prelude.{IfOk, OnOk}
use Rattle.world_defs.specs.declared.event.Event.TheVariants.{Ask}
use Rattle.world_defs.specs.World.{WorldState}
use Rattle.world_defs.specs.Step.{step}
use Rattle.world_defs.specs.Asking.{probed_host, returned_in}
use Rattle.world_defs.specs.Logs as log
use Rattle.world_defs.specs.Row.{IsPartWay}
use Rattle.log_laws.proofs.PartWay.{way-start, way-still, way-step}
use Rattle.fab_world.proofs.Answers.{on-err}
use Rattle.world_drain.proofs.Later.{on-any}
use Rattle.world_asking.proofs.sending.send_staged.Goals as goal

-- the ask has happened
led : (c : goal.After-send_first) → c.happen.new.w ≡ (step c.args.w.now (Ask c.args.host c.args.walk.now c.args.looped)).1
led c = c.in_ok-happen.ensures.after ∙ ap (λ ts. (step c.args.w.now (Ask c.args.host ts c.args.looped)).1) c.in_ok-walk.ensures

pub returns-clause-used : goal.returns-clause-used
returns-clause-used c = subst (λ u. IfOk c.send_first.result (λ p. p.used_up ≡ (log.sends c.args.host u).value.used_up)) (led c) c.send_first.ensures.used

pub returns-clause-number : goal.returns-clause-number
returns-clause-number c = subst (λ u. IfOk c.send_first.result (λ p. p.number ≡ (log.sends c.args.host u).value.number)) (led c) c.send_first.ensures.number

pub returns-clause-probed : goal.returns-clause-probed
returns-clause-probed c = subst (λ u. IfOk c.send_first.result (λ p. p.probed ≡ probed_host (log.sends c.args.host u).value.effects)) (led c) c.send_first.ensures.probed

pub returns-clause-returned : goal.returns-clause-returned
returns-clause-returned c =
    subst (λ u. IfOk c.send_first.result (λ p. p.returned ≡ returned_in c.args.host (log.sends c.args.host u).value.number (log.sends c.args.host u).value.effects)) (led c) c.send_first.ensures.returned

pub returns-clause-after : goal.returns-clause-after
returns-clause-after c = subst (λ u. OnOk c.send_first.result (c.send_first.new.w ≡ (log.sends c.args.host u).world)) (led c) c.send_first.ensures.after

pub returns-in_err-walk-clause-err : goal.returns-in_err-walk-clause-err
returns-in_err-walk-clause-err c = on-any c.from_residual.result (way-start c.args.w.now _)

pub returns-in_err-happen-clause-err : goal.returns-in_err-happen-clause-err
returns-in_err-happen-clause-err c = on-any c.from_residual-in_err-happen.result (way-still c.args.w.now c.happen.new.w _ c.in_err-happen.ensures.err)

pub returns-clause-err : goal.returns-clause-err
returns-clause-err c =
    let u : WorldState = (step c.args.w.now (Ask c.args.host c.args.walk.now c.args.looped)).1 in
    on-err c.send_first.result
    (λ p. way-step c.args.w.now u c.send_first.new.w (Ask c.args.host c.args.walk.now c.args.looped) (log.sends c.args.host u).events refl (subst (λ y. IsPartWay y (log.sends c.args.host y).events c.send_first.new.w) (led c) p))
    c.send_first.ensures.err
