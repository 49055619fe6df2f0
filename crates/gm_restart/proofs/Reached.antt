-- What a reached moment keeps, and what is known at each.
use Rattle.std.proofs.Common.{◌≡◌, ℕ, Result, Ok, Err, IfOk, sym, ap, ◌∙◌, subst}
use Rattle.std.specs.Prelude.{OnErr}
use Rattle.duo_defs.specs.declared.effect.DuoEffect.{DuoEffect}
use Rattle.duo_defs.specs.declared.effect.DuoEffect.TheVariants.{Sent, Unsure}
use Rattle.duo_defs.specs.declared.event.DuoEvent.{DuoEvent}
use Rattle.duo_defs.specs.declared.event.DuoEvent.TheVariants.{Poll}
use Rattle.duo_defs.specs.Duo.{DuoState}
use Rattle.duo_defs.specs.Step.{IsFair, step}
use Rattle.duo_defs.specs.Theorem.{IsReached, IsSentRight, IsUnsureRight}
use Rattle.duo_laws.proofs.Reaching.{reached-step}
use Rattle.duo_laws.proofs.Polls.{polls-right}

-- one event more, or none where memory ran out
pub reached-after : {X : Type 0} (d later : DuoState) (e : DuoEvent) (r : Result DuoEffect X) → IsReached d → IsFair e → IfOk r (λ k. step d e ≡ (k, later)) → OnErr r (later ≡ d) → IsReached later
reached-after d later e (Ok k) is fair ok err = subst IsReached (ap (λ o. o.1) ok) (reached-step d e is fair)
reached-after d later e (Err w) is fair ok err = subst IsReached (sym err) is

-- what a poll answers is true
pub sent-right : {X : Type 0} (d later : DuoState) (e : DuoEvent) (r : Result DuoEffect X) → IsReached d → IfOk r (λ k. step d e ≡ (k, later)) → IfOk r (λ k. (x t : ℕ) → e ≡ Poll x → k ≡ Sent t → IsSentRight d x t)
sent-right d later e (Ok k) is ok = λ x t poll told. (polls-right d is x t).0 (ap (λ q. (step d q).0) (sym poll) ∙ (ap (λ o. o.0) ok ∙ told))
sent-right d later e (Err w) is ok = tt

pub unsure-right : {X : Type 0} (d later : DuoState) (e : DuoEvent) (r : Result DuoEffect X) → IsReached d → IfOk r (λ k. step d e ≡ (k, later)) → IfOk r (λ k. (x t : ℕ) → e ≡ Poll x → k ≡ Unsure t → IsUnsureRight d x t)
unsure-right d later e (Ok k) is ok = λ x t poll told. (polls-right d is x t).1 (ap (λ q. (step d q).0) (sym poll) ∙ (ap (λ o. o.0) ok ∙ told))
unsure-right d later e (Err w) is ok = tt
