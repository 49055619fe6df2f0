-- One event more.
use Rattle.std.proofs.Common.{◌≡◌, ◌≤◌, ℕ, List, [], ◌∷◌, ◌++◌, refl, sym, ap, ◌∙◌}
use Rattle.net_defs.proofs.Distinct.{all-push}
use Rattle.duo_defs.specs.declared.event.DuoEvent.{DuoEvent}
use Rattle.duo_defs.specs.Duo.{DuoState, new_duo}
use Rattle.duo_defs.specs.Step.{IsFair, step, after_all}
use Rattle.duo_defs.specs.Theorem.{IsReached}

after-push : (d : DuoState) (events : List DuoEvent) (e : DuoEvent) → after_all d (events ++ e ∷ []) ≡ (step (after_all d events) e).1
after-push d [] e = refl
after-push d (f ∷ fs) e = after-push (step d f).1 fs e

pub reached-step : (d : DuoState) (e : DuoEvent) → IsReached d → IsFair e → IsReached (step d e).1
reached-step d e r fair = record {
  inc = r.inc;
  least = r.least;
  events = r.events ++ e ∷ [];
  fair = all-push IsFair r.events e r.fair fair;
  leads = ap (λ x. (step x e).1) r.leads ∙ sym (after-push (new_duo r.inc) r.events e);
}

pub reached-new : (inc : ℕ) → 1 ≤ inc → IsReached (new_duo inc)
reached-new inc least = record { inc = inc; least = least; events = []; fair = tt; leads = refl }
