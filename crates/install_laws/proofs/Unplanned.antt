-- Where no fault is planned for an injection of an installation, none harms, and no cable goes.
use Rattle.std.proofs.Common.{◌≡◌, ◌≤◌, ◌+◌, ℕ, false, nat_eq, Some, None, refl, sym, ap, ◌∙◌, arith}
use Rattle.std.specs.Map.{lookup}
use Rattle.world_defs.specs.declared.fault.Fault.{Fault}
use Rattle.world_defs.specs.Node.{Outgoing}
use Rattle.world_defs.specs.World.{WorldState}
use Rattle.world_defs.specs.Step.{planned_strikes, sent_out}
use Rattle.world_defs.specs.EightBits.{IsByteEvent}
use Rattle.world_laws.proofs.Leaves.{Follows, FollowsCalls, step-leaves}
use Rattle.world_laws.proofs.Along.{Along, row-along}
use Rattle.world_laws.proofs.Unplanned.{IsUnplanned, Unplanned, is_change, along-unplanned}
use Rattle.world_defs.specs.Logs.{install}
use Rattle.world_defs.proofs.LogRows.{install-row}
use Rattle.world_defs.proofs.Strikes.{Strike, strike_view}
use Rattle.ask_laws.proofs.Struck.{without-none}
use Rattle.install_laws.proofs.Worlds.{installed-of}
use Rattle.install_laws.specs.Counts.{UnplannedCountsAll}
use Rattle.install_laws.proofs.Counting.{unharmed-all}

-- what follows
record Unharmed (w v : WorldState) : Type 0 where
  injected : w.injected ≤ v.injected
  unplanned : (number : ℕ) → lookup (nat_eq number) w.plan ≡ None → lookup (nat_eq number) v.plan ≡ None
  harmed : IsUnplanned w v → v.harmed ≡ w.harmed

unharmed-same : (w v : WorldState) → v.injected ≡ w.injected → v.plan ≡ w.plan → v.harmed ≡ w.harmed → Unharmed w v
unharmed-same w v i p h = record { injected = omega (arith, i); unplanned = λ number e. ap (lookup (nat_eq number)) p ∙ e; harmed = λ none. h }

unharmed-both : (u v w : WorldState) → Unharmed u v → Unharmed v w → Unharmed u w
unharmed-both u v w a b =
    let i = a.injected in
    let j = b.injected in
    record {
      injected = omega (arith, i, j);
      unplanned = λ number e. b.unplanned number (a.unplanned number e);
      harmed = λ none.
          b.harmed (λ number low high. a.unplanned number (none number (omega (arith, i, low)) high))
          ∙ a.harmed (λ number low high. none number low (omega (arith, j, high)));
    }

-- an injection
strike-so : (w : WorldState) {u v : WorldState} {c : ℕ} → u.injected ≡ w.injected + 1 → u.plan ≡ w.plan → u.harmed ≡ w.harmed → Strike u c v → Unharmed w v
strike-so w i p h (Strike.spares e) = record { injected = omega (arith, i); unplanned = λ number none. ap (lookup (nat_eq number)) p ∙ none; harmed = λ none. h }
strike-so w {u = u} i p h (Strike.misses f e k) = record { injected = omega (arith, i); unplanned = λ number none. without-none (nat_eq u.injected) (nat_eq number) u.plan (ap (lookup (nat_eq number)) p ∙ none); harmed = λ none. h }
strike-so w {u = u} i p h (Strike.strikes f e k) = record {
  injected = omega (arith, i);
  unplanned = λ number none. without-none (nat_eq u.injected) (nat_eq number) u.plan (ap (lookup (nat_eq number)) p ∙ none);
  harmed = λ none. absurd (none-some f (sym (none u.injected (omega (arith, i)) (omega arith)) ∙ ap (lookup (nat_eq u.injected)) (sym p) ∙ e));
}
  where
    none-some : (f : Fault) → None ≡ Some f → ⊥
    none-some f e = cc

injection-so : (w : WorldState) (h c : ℕ) (out : Outgoing) → Unharmed w (planned_strikes (sent_out w h c out) c)
unfolding sent_out
injection-so w h c out = strike-so w refl refl refl (strike_view (sent_out w h c out) c)

follows-so : Follows Unharmed
follows-so = record {
  same = λ w. unharmed-same w w refl refl refl;
  both = unharmed-both;
  links = λ w x packets. unharmed-same w _ refl refl refl;
  node = λ w h n k. unharmed-same w _ refl refl refl;
  drop = λ w. unharmed-same w _ refl refl refl;
  injection = λ w h c out low e. injection-so w h c out;
}

calls-so : FollowsCalls Unharmed
calls-so w h port call k = unharmed-same w _ refl refl refl

along-so : Along Unharmed IsByteEvent
along-so = record { same = λ w. unharmed-same w w refl refl refl; both = unharmed-both; event = λ w e q. step-leaves Unharmed follows-so calls-so w e }

pub unplanned-all : UnplannedCountsAll
unplanned-all a hosts tries w can some left none =
    let u : Unplanned w (install a hosts tries w).world = row-along along-unplanned (install-row {Q = λ e. is_change e ≡ false} (record { advance = λ c. refl; inject = λ h. refl; give_up = λ h. refl }) (λ dst part. refl) a hosts tries w) in
    unharmed-all a hosts tries w can some left ((installed-of Unharmed along-so a hosts tries w).harmed none) (ap (λ h. h.changes) (u.cables none))
