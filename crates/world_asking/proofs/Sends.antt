-- A host's injection, and the drain after it, of a packet that was carried to its end at once.
use Rattle.std.proofs.Common.{◌≡◌, ◌<◌, ◌+◌, ℕ, ℤ, Bool, true, false, ◌&&◌, List, [], ◌∷◌, Option, Some, None, is_some, nat_le, refl, sym, ◌∙◌, ap, subst}
use Rattle.std.specs.Prelude.{IfSome, Result, Ok}
use Rattle.net_defs.specs.Route.{host_port}
use Rattle.world_defs.specs.Crossed.{leaving}
use Rattle.world_defs.specs.declared.event.Event.TheVariants.{Ask, Inject}
use Rattle.world_defs.specs.declared.effect.Effect.{Effect}
use Rattle.world_defs.specs.World.{WorldState, host_count, last_count}
use Rattle.world_defs.specs.Step.{step}
use Rattle.world_defs.specs.Asking.{number_of, probed_host, returned_in}
use Rattle.world_defs.specs.Logs as log
use Rattle.fab_world.specs.Held.{IsMoment}
use Rattle.fab_world.specs.Carried.{IsCarriedIn}
use Rattle.fab_world.proofs.Moments.{step-moment, later-hosts}
use Rattle.fab_world.proofs.Probing.{more-left}
use Rattle.world_drain.specs.declared.seen.Watch.{Watch}
use Rattle.world_drain.specs.declared.seen.Seen.{Seen}
use Rattle.world_drain.specs.Watch.{seen_in}
use Rattle.world_drain.proofs.Lone.{run-drained}
use Rattle.world_drain.proofs.Parts.{drained-idle}
use Rattle.world_drain.proofs.Heard.{drain-heard}

and-none : (b c : Bool) → c ≡ false → (b && c) ≡ false
and-none true c e = e
and-none false c e = refl

-- What the injection and the drain come to.
pub record ShowsEnd (h number : ℕ) (x : Effect) (first last : WorldState) : Type 0 where
  pub used : (log.sends h first).value.used_up ≡ false
  pub number_is : (log.sends h first).value.number ≡ Some number
  pub probed : probed_host (x ∷ []) ≡ probed_host (log.sends h first).value.effects
  pub returned : returned_in h (Some number) (x ∷ []) ≡ returned_in h (log.sends h first).value.number (log.sends h first).value.effects
  pub after : last ≡ (log.sends h first).world

pub shows-end : (h number hops : ℕ) (x : Effect) (first last : WorldState) → IsCarriedIn first h number hops x last → ShowsEnd h number x first last
unfolding log.sends
shows-end h number hops x first last k =
    let watch : Watch = record { mapper = h; number = Some number; part = None } in
    let one : Seen = seen_in watch (x ∷ []) in
    let all : Seen = record one { changes = hops + one.changes } in
    let end = drained-idle watch k.entered last all
    (run-drained watch k.entered k.ran last k.c hops k.at one all k.lone.others k.run k.stays (sym (ap (λ r. r.1) k.leaves)) (ap (λ r. seen_in watch (r.0 ∷ [])) (sym k.leaves)) refl) k.idle in
    let effects : (log.drain (step first (Inject h)).1).value ≡ (log.drain k.entered).value = ap (λ r. (log.drain r.1).value) k.injects in
    let told : number_of (step first (Inject h)).0 ≡ Some number = ap (λ r. number_of r.0) k.injects in
    record {
      used = and-none (is_some (leaving first.links.cables (host_port h))) (nat_le last_count first.injected) (more-left last_count first.injected k.left);
      number_is = told;
      probed = ap (λ s. s.probed) end.0 ∙ ap probed_host (sym effects);
      returned =
          ap (λ s. s.returned) end.0 ∙ ap (returned_in h (Some number)) (sym effects)
          ∙ ap (λ n. returned_in h n (log.drain (step first (Inject h)).1).value) (sym told);
      after = end.1 ∙ ap (λ r. (log.drain r.1).world) (sym k.injects);
    }

abbrev done : Seen → Result Seen (Unit {0})
done s = Ok s

-- the host that heard a probe is there
pub sends-heard : (h : ℕ) (walk : List ℤ) (looped : Bool) (w : WorldState) (o : Option ℕ) → IsMoment w → o ≡ probed_host (log.sends h (step w (Ask h walk looped)).1).value.effects → IfSome o (λ k. k < host_count w)
unfolding log.sends
sends-heard h walk looped w o m is =
    let first : WorldState = (step w (Ask h walk looped)).1 in
    let entered : WorldState = (step first (Inject h)).1 in
    let watch : Watch = record { mapper = h; number = None; part = None } in
    let seen : Seen = seen_in watch (log.drain entered).value in
    let there : IfSome seen.probed (λ k. k < host_count entered) = drain-heard watch entered (done seen) (step-moment first (Inject h) (step-moment w (Ask h walk looped) m)) refl in
    let hosts : host_count entered ≡ host_count w = later-hosts w entered m (Ask h walk looped ∷ Inject h ∷ [], refl) in
    subst (λ p. IfSome p (λ k. k < host_count w)) (sym is) (subst (λ n. IfSome seen.probed (λ k. k < n)) hosts there)
