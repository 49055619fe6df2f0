use Rattle.std.proofs.Common.{◌≡◌, ◌<◌, ◌∷◌, ℕ, ℤ, Bool, List, Some, sym, ap, subst, ◌∙◌}
use Rattle.std.specs.Prelude.{Option, Result, Ok, Err, IfOk, IfSome, IfNone, OnOk, OnErr}
use Rattle.world_defs.specs.declared.event.Event.TheVariants.{Ask}
use Rattle.world_defs.specs.World.{WorldState, host_count}
use Rattle.world_defs.specs.Step.{step}
use Rattle.world_defs.specs.Asking.{probed_host, returned_in}
use Rattle.world_defs.specs.Logs as log
use Rattle.world_defs.specs.Row.{IsPartWay}
use Rattle.log_laws.proofs.PartWay.{way-still}
use Rattle.fab_world.specs.declared.machine.probing.Probed.{Probed}
use Rattle.fab_world.specs.Carried.{IsCarriedIn}
use Rattle.world_drain.proofs.Later.{on-any}
use Rattle.world_asking.specs.declared.sending.SentProbe.{SentProbe}
use Rattle.world_asking.proofs.Sends.{ShowsEnd, shows-end, sends-heard}
use Rattle.world_asking.proofs.sending.send_probe.Goals as goal

-- ---- a probe that was carried to its end: what the injection and the drain after the ask come to
shown : (host : ℕ) (walk : List ℤ) (looped : Bool) (w v : WorldState) (p : Probed) (o : Option Probed) → o ≡ Some p
    → IfSome o (λ (q : Probed). IsCarriedIn (step w (Ask host walk looped)).1 host q.number q.hops q.effect v) → ShowsEnd host p.number p.effect (step w (Ask host walk looped)).1 v
shown host walk looped w v p o is carried =
    shows-end host p.number p.hops p.effect (step w (Ask host walk looped)).1 v
    (subst (λ k. IfSome k (λ (q : Probed). IsCarriedIn (step w (Ask host walk looped)).1 host q.number q.hops q.effect v)) is carried)

pub returns-in-Some-clause-used : goal.returns-in-Some-clause-used
returns-in-Some-clause-used c = let s = shown c.args.host c.args.walk.now c.args.looped c.args.w.now c.probe.new.self c.in-Some.probed c.in_ok-gone.gone c.in-Some.is c.in_ok-gone.ensures.carried in ap (λ (p : SentProbe). p.used_up) c.carried.ensures ∙ sym s.used

pub returns-in-Some-clause-number : goal.returns-in-Some-clause-number
returns-in-Some-clause-number c = let s = shown c.args.host c.args.walk.now c.args.looped c.args.w.now c.probe.new.self c.in-Some.probed c.in_ok-gone.gone c.in-Some.is c.in_ok-gone.ensures.carried in ap (λ (p : SentProbe). p.number) c.carried.ensures ∙ sym s.number_is

pub returns-in-Some-clause-probed : goal.returns-in-Some-clause-probed
returns-in-Some-clause-probed c = let s = shown c.args.host c.args.walk.now c.args.looped c.args.w.now c.probe.new.self c.in-Some.probed c.in_ok-gone.gone c.in-Some.is c.in_ok-gone.ensures.carried in ap (λ (p : SentProbe). p.probed) c.carried.ensures ∙ s.probed

pub returns-in-Some-clause-returned : goal.returns-in-Some-clause-returned
returns-in-Some-clause-returned c = let s = shown c.args.host c.args.walk.now c.args.looped c.args.w.now c.probe.new.self c.in-Some.probed c.in_ok-gone.gone c.in-Some.is c.in_ok-gone.ensures.carried in ap (λ (p : SentProbe). p.returned) c.carried.ensures ∙ s.returned

pub returns-in-Some-clause-heard : goal.returns-in-Some-clause-heard
returns-in-Some-clause-heard c =
    let s = shown c.args.host c.args.walk.now c.args.looped c.args.w.now c.probe.new.self c.in-Some.probed c.in_ok-gone.gone c.in-Some.is c.in_ok-gone.ensures.carried in
    sends-heard c.args.host c.args.walk.now c.args.looped c.args.w.now c.carried.result.probed c.moment.ensures.kept (ap (λ (p : SentProbe). p.probed) c.carried.ensures ∙ s.probed)

pub returns-in-Some-clause-after : goal.returns-in-Some-clause-after
returns-in-Some-clause-after c = let s = shown c.args.host c.args.walk.now c.args.looped c.args.w.now c.probe.new.self c.in-Some.probed c.in_ok-gone.gone c.in-Some.is c.in_ok-gone.ensures.carried in s.after

pub returns-in_err-gone-clause-err : goal.returns-in_err-gone-clause-err
returns-in_err-gone-clause-err c = on-any c.from_residual.result (way-still c.args.w.now c.probe.new.self _ c.in_err-gone.ensures.err)

-- ---- one that wasn't: nothing has happened before it is sent
same : (c : goal.After-send_staged) → c.probe.new.self ≡ c.args.w.now
same c = subst (λ (o : Option Probed). IfNone o (c.probe.new.self ≡ c.args.w.now)) c.in-None.is c.in_ok-gone.ensures.none

pub returns-in-None-clause-used : goal.returns-in-None-clause-used
returns-in-None-clause-used c = subst (λ y. IfOk c.send_staged.result (λ p. p.used_up ≡ (log.sends c.args.host (step y (Ask c.args.host c.args.walk.now c.args.looped)).1).value.used_up)) (same c) c.send_staged.ensures.used

pub returns-in-None-clause-number : goal.returns-in-None-clause-number
returns-in-None-clause-number c = subst (λ y. IfOk c.send_staged.result (λ p. p.number ≡ (log.sends c.args.host (step y (Ask c.args.host c.args.walk.now c.args.looped)).1).value.number)) (same c) c.send_staged.ensures.number

pub returns-in-None-clause-probed : goal.returns-in-None-clause-probed
returns-in-None-clause-probed c = subst (λ y. IfOk c.send_staged.result (λ p. p.probed ≡ probed_host (log.sends c.args.host (step y (Ask c.args.host c.args.walk.now c.args.looped)).1).value.effects)) (same c) c.send_staged.ensures.probed

pub returns-in-None-clause-returned : goal.returns-in-None-clause-returned
returns-in-None-clause-returned c = subst (λ y. IfOk c.send_staged.result (λ p. p.returned ≡ returned_in c.args.host (log.sends c.args.host (step y (Ask c.args.host c.args.walk.now c.args.looped)).1).value.number (log.sends c.args.host (step y (Ask c.args.host c.args.walk.now c.args.looped)).1).value.effects)) (same c) c.send_staged.ensures.returned

pub returns-in-None-clause-after : goal.returns-in-None-clause-after
returns-in-None-clause-after c = subst (λ y. OnOk c.send_staged.result (c.send_staged.new.w ≡ (log.sends c.args.host (step y (Ask c.args.host c.args.walk.now c.args.looped)).1).world)) (same c) c.send_staged.ensures.after

pub returns-in-None-clause-err : goal.returns-in-None-clause-err
returns-in-None-clause-err c = subst (λ y. OnErr c.send_staged.result (IsPartWay y (Ask c.args.host c.args.walk.now c.args.looped ∷ (log.sends c.args.host (step y (Ask c.args.host c.args.walk.now c.args.looped)).1).events) c.send_staged.new.w)) (same c) c.send_staged.ensures.err

pub returns-in-None-clause-heard : goal.returns-in-None-clause-heard
returns-in-None-clause-heard c = heard c.send_staged.result c.send_staged.ensures.probed
  where
    heard : {E : Type 0} (r : Result SentProbe E) → IfOk r (λ p. p.probed ≡ probed_host (log.sends c.args.host (step c.probe.new.self (Ask c.args.host c.args.walk.now c.args.looped)).1).value.effects) → IfOk r (λ p. IfSome p.probed (λ h. h < host_count c.args.w.now))
    heard (Ok p) is =
        sends-heard c.args.host c.args.walk.now c.args.looped c.args.w.now p.probed c.moment.ensures.kept
        (is ∙ ap (λ y. probed_host (log.sends c.args.host (step y (Ask c.args.host c.args.walk.now c.args.looped)).1).value.effects) (same c))
    heard (Err e) is = tt
