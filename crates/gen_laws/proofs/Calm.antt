-- An installation in a world for which no fault is planned counts all its hosts.
use Rattle.std.proofs.Common.{◌≡◌, ◌<◌, ℕ, false, nat_eq, List, length, Some, None, refl, sym, ap, ◌∙◌}
use Rattle.std.specs.Map.{lookup}
use Rattle.world_defs.specs.declared.fault.Fault.{Fault}
use Rattle.world_defs.specs.EightBits.{IsByteEvent}
use Rattle.world_defs.specs.Logs.{install}
use Rattle.world_defs.specs.Node.{Outgoing}
use Rattle.world_defs.specs.Step.{planned_strikes, sent_out}
use Rattle.world_defs.specs.Table.{Adoption}
use Rattle.world_defs.specs.World.{WorldState, last_count}
use Rattle.world_defs.proofs.LogRows.{install-row}
use Rattle.world_defs.proofs.Strikes.{Strike, strike_view}
use Rattle.world_laws.proofs.Along.{Along, row-along}
use Rattle.world_laws.proofs.Leaves.{Follows, FollowsCalls, step-leaves}
use Rattle.world_laws.proofs.Unplanned.{Unplanned, is_change, along-unplanned}
use Rattle.install_laws.specs.Premises.{CanInstall}
use Rattle.install_laws.proofs.Counting.{unharmed-all}
use Rattle.install_laws.proofs.Worlds.{installed-of}

-- no fault is planned
abbrev pub NonePlanned : WorldState → Type 0
NonePlanned w = (number : ℕ) → lookup (nat_eq number) w.plan ≡ None

-- then none is planned after, and none harmed
record StaysCalm (w v : WorldState) : Type 0 where
  plan : NonePlanned w → NonePlanned v
  harmed : NonePlanned w → v.harmed ≡ w.harmed

calm-same : (w v : WorldState) → v.plan ≡ w.plan → v.harmed ≡ w.harmed → StaysCalm w v
calm-same w v p h = record { plan = λ none number. ap (lookup (nat_eq number)) p ∙ none number; harmed = λ none. h }

calm-both : (u v w : WorldState) → StaysCalm u v → StaysCalm v w → StaysCalm u w
calm-both u v w a b = record { plan = λ none. b.plan (a.plan none); harmed = λ none. b.harmed (a.plan none) ∙ a.harmed none }

-- an injection
none-some : (f : Fault) → None ≡ Some f → ⊥
none-some f e = cc

strike-calm : {u v : WorldState} {c : ℕ} → Strike u c v → StaysCalm u v
strike-calm {u = u} (Strike.spares e) = calm-same u u refl refl
strike-calm {u = u} (Strike.misses f e k) = record {
  plan = λ none number. absurd (none-some f (sym (none u.injected) ∙ e));
  harmed = λ none. absurd (none-some f (sym (none u.injected) ∙ e));
}
strike-calm {u = u} (Strike.strikes f e k) = record {
  plan = λ none number. absurd (none-some f (sym (none u.injected) ∙ e));
  harmed = λ none. absurd (none-some f (sym (none u.injected) ∙ e));
}

sent-calm : (w : WorldState) (h c : ℕ) (out : Outgoing) → StaysCalm w (sent_out w h c out)
unfolding sent_out
sent-calm w h c out = calm-same w _ refl refl

injection-calm : (w : WorldState) (h c : ℕ) (out : Outgoing) → StaysCalm w (planned_strikes (sent_out w h c out) c)
injection-calm w h c out =
    let u : WorldState = sent_out w h c out in
    calm-both w u (planned_strikes u c) (sent-calm w h c out) (strike-calm (strike_view u c))

-- every event
follows-calm : Follows StaysCalm
follows-calm = record {
  same = λ w. calm-same w w refl refl;
  both = calm-both;
  links = λ w x later. calm-same w _ refl refl;
  node = λ w h n k. calm-same w _ refl refl;
  drop = λ w. calm-same w _ refl refl;
  injection = λ w h c out low e. injection-calm w h c out;
}

calls-calm : FollowsCalls StaysCalm
calls-calm w h port call k = calm-same w _ refl refl

along-calm : Along StaysCalm IsByteEvent
along-calm = record { same = λ w. calm-same w w refl refl; both = calm-both; event = λ w e q. step-leaves StaysCalm follows-calm calls-calm w e }

pub counts-all : (a : Adoption) (hosts : List ℕ) (tries : ℕ) (w : WorldState) → CanInstall a hosts w → 0 < tries → (install a hosts tries w).world.injected < last_count → NonePlanned w → (install a hosts tries w).value ≡ length hosts
counts-all a hosts tries w can some left none =
    let u : Unplanned w (install a hosts tries w).world = row-along along-unplanned (install-row {Q = λ e. is_change e ≡ false} (record { advance = λ c. refl; inject = λ h. refl; give_up = λ h. refl }) (λ dst part. refl) a hosts tries w) in
    unharmed-all a hosts tries w can some left ((installed-of StaysCalm along-calm a hosts tries w).harmed none) (ap (λ h. h.changes) (u.cables (λ number low high. none number)))
