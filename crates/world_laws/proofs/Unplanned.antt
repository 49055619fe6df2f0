-- Where no fault is planned for an injection of events that neither pull nor plug, they leave the cables.
use Rattle.std.proofs.Common.{◌≡◌, ◌<◌, ◌≤◌, ◌+◌, ℕ, Bool, true, false, nat_eq, List, [], ◌∷◌, Some, None, cond, refl, sym, ap, ◌∙◌, true≢false, arith}
use Rattle.std.specs.Map.{lookup, remove_entry}
use Rattle.world_defs.specs.LinkStep.{Step, Advance as AdvanceLinks, stepped}
use Rattle.world_defs.proofs.Shapes.{stepped-cables}
use Rattle.world_defs.specs.declared.event.Event.{Event}
use Rattle.world_defs.specs.declared.event.Event.TheVariants.{Pull, Plug}
use Rattle.world_defs.specs.declared.effect.Effect.{Effect}
use Rattle.world_defs.specs.declared.fault.Fault.{Fault}
use Rattle.world_defs.specs.Node.{Outgoing}
use Rattle.world_defs.specs.World.{WorldState, with_links}
use Rattle.world_defs.specs.Step.{planned_strikes, sent_out, step}
use Rattle.world_defs.proofs.Kept.{sent-cables}
use Rattle.world_defs.proofs.Strikes.{Strike, strike_view}
use Rattle.world_defs.proofs.Views.{LinksChange, Change, view}
use Rattle.world_laws.proofs.Along.{Along}

-- no fault is planned for an injection between two worlds
abbrev pub IsUnplanned : WorldState → WorldState → Type 0
IsUnplanned w v = (number : ℕ) → w.injected < number → number ≤ v.injected → lookup (nat_eq number) w.plan ≡ None

-- what follows
pub record Unplanned (w v : WorldState) : Type 0 where
  pub injected : w.injected ≤ v.injected
  pub unplanned : (number : ℕ) → lookup (nat_eq number) w.plan ≡ None → lookup (nat_eq number) v.plan ≡ None
  pub cables : IsUnplanned w v → v.links.cables ≡ w.links.cables

unplanned-same : (w v : WorldState) → v.injected ≡ w.injected → v.plan ≡ w.plan → v.links.cables ≡ w.links.cables → Unplanned w v
unplanned-same w v i p c = record { injected = omega (arith, i); unplanned = λ number e. ap (lookup (nat_eq number)) p ∙ e; cables = λ none. c }

unplanned-both : (u v w : WorldState) → Unplanned u v → Unplanned v w → Unplanned u w
unplanned-both u v w a b =
    let i = a.injected in
    let j = b.injected in
    record {
      injected = omega (arith, i, j);
      unplanned = λ number e. b.unplanned number (a.unplanned number e);
      cables = λ none.
          b.cables (λ number low high. a.unplanned number (none number (omega (arith, i, low)) high))
          ∙ a.cables (λ number low high. none number low (omega (arith, j, high)));
    }

without-none : (test other : ℕ → Bool) (fs : List (ℕ × Fault)) → lookup other fs ≡ None → lookup other (remove_entry test fs) ≡ None
without-none test other [] e = refl
without-none test other (f ∷ fs) e = by (test f.0) (other f.0) refl e (without-none test other fs)
  where
    by : (t o : Bool) → other f.0 ≡ o → cond o (Some f.1) (lookup other fs) ≡ None → (lookup other fs ≡ None → lookup other (remove_entry test fs) ≡ None) → lookup other (cond t fs (f ∷ remove_entry test fs)) ≡ None
    by t true p d rest = cc
    by true false p d rest = d
    by false false p d rest = rw p (rest d)

-- an injection
strike-unplanned : (w : WorldState) {u v : WorldState} {c : ℕ} → u.injected ≡ w.injected + 1 → u.plan ≡ w.plan → u.links.cables ≡ w.links.cables → Strike u c v → Unplanned w v
strike-unplanned w i p h (Strike.spares e) = record { injected = omega (arith, i); unplanned = λ number none. ap (lookup (nat_eq number)) p ∙ none; cables = λ none. h }
strike-unplanned w {u = u} i p h (Strike.misses f e k) = record { injected = omega (arith, i); unplanned = λ number none. without-none (nat_eq u.injected) (nat_eq number) u.plan (ap (lookup (nat_eq number)) p ∙ none); cables = λ none. h }
strike-unplanned w {u = u} i p h (Strike.strikes f e k) = record {
  injected = omega (arith, i);
  unplanned = λ number none. without-none (nat_eq u.injected) (nat_eq number) u.plan (ap (lookup (nat_eq number)) p ∙ none);
  cables = λ none. absurd (none-some f (sym (none u.injected (omega (arith, i)) (omega arith)) ∙ ap (lookup (nat_eq u.injected)) (sym p) ∙ e));
}
  where
    none-some : (f : Fault) → None ≡ Some f → ⊥
    none-some f e = cc

sent-counts : (w : WorldState) (h c : ℕ) (out : Outgoing) → ((sent_out w h c out).injected ≡ w.injected + 1) × ((sent_out w h c out).plan ≡ w.plan)
unfolding sent_out
sent-counts w h c out = (refl, refl)

injection-unplanned : (w : WorldState) (h c : ℕ) (out : Outgoing) → Unplanned w (planned_strikes (sent_out w h c out) c)
injection-unplanned w h c out = let s = sent-counts w h c out in strike-unplanned w s.0 s.1 (sent-cables w h c out) (strike_view (sent_out w h c out) c)

-- an event that neither pulls nor plugs by itself
abbrev pub is_change : Event → Bool
is_change (Pull at) = true
is_change (Plug a b) = true
is_change _ = false

links-unplanned : {w : WorldState} {e : Event} {x : Effect} {s : Step} → is_change e ≡ false → LinksChange w e x s → Unplanned w (with_links w (stepped w.links s))
links-unplanned {w = w} {s = s} not (LinksChange.moves packet next d e f g) = unplanned-same w (with_links w (stepped w.links s)) refl refl (stepped-cables w.links s refl)
links-unplanned {w = w} {s = s} not (LinksChange.loses k) = unplanned-same w (with_links w (stepped w.links s)) refl refl (stepped-cables w.links s refl)
links-unplanned {w = w} {s = s} not (LinksChange.resets k) = unplanned-same w (with_links w (stepped w.links s)) refl refl (stepped-cables w.links s refl)
links-unplanned {w = w} {s = s} not (LinksChange.repeats k) = unplanned-same w (with_links w (stepped w.links s)) refl refl (stepped-cables w.links s refl)
links-unplanned {w = w} {s = s} not (LinksChange.holds k) = unplanned-same w (with_links w (stepped w.links s)) refl refl (stepped-cables w.links s refl)
links-unplanned {w = w} {s = s} not (LinksChange.flips k) = unplanned-same w (with_links w (stepped w.links s)) refl refl (stepped-cables w.links s refl)
links-unplanned {w = w} {s = s} not (LinksChange.replays k) = unplanned-same w (with_links w (stepped w.links s)) refl refl (stepped-cables w.links s refl)
links-unplanned not (LinksChange.pulls k) = absurd (true≢false not)
links-unplanned not (LinksChange.plugs k) = absurd (true≢false not)

change-unplanned : {w : WorldState} {e : Event} {r : Effect × WorldState} → is_change e ≡ false → Change w e r → Unplanned w r.1
change-unplanned {w = w} not Change.idle = unplanned-same w w refl refl refl
change-unplanned {w = w} not (Change.blocked packet next d e) = unplanned-same w w refl refl refl
change-unplanned not (Change.links k) = links-unplanned not k
change-unplanned {w = w} not (Change.drops {c = c} packet why d e f) = unplanned-same w _ refl refl (stepped-cables w.links (AdvanceLinks c) refl)
change-unplanned {w = w} not (Change.arrives {c = c} packet h d e f g) = unplanned-same w _ refl refl (stepped-cables w.links (AdvanceLinks c) refl)
change-unplanned {w = w} not (Change.host k) = unplanned-same w _ refl refl refl
change-unplanned {w = w} not (Change.injects {h = h} c out d e f g o) = injection-unplanned w h c out
change-unplanned {w = w} not (Change.calls k) = unplanned-same w _ refl refl refl

pub step-unplanned : (w : WorldState) (e : Event) → is_change e ≡ false → Unplanned w (step w e).1
step-unplanned w e not = change-unplanned not (view w e)

pub along-unplanned : Along Unplanned (λ e. is_change e ≡ false)
along-unplanned = record { same = λ w. unplanned-same w w refl refl refl; both = unplanned-both; event = step-unplanned }
