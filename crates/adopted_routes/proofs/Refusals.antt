-- When routes are refused.
use Rattle.std.proofs.Common.{◌≡◌, ℕ, Bool, true, false, not, ◌&&◌, ◌||◌, nat_eq, List, Option, Some, None, is_some, is_none, refl, sym, ap, ◌∙◌, if◌then◌else◌}
use Rattle.std.proofs.lemmas.Option.{same_Some}
use Rattle.net_defs.specs.declared.route.Route.{Route}
use Rattle.world_defs.specs.declared.standing.Standing.{Standing}
use Rattle.world_defs.specs.Table.{Adoption, last_epoch, is_kept_in, may_adopt_in}
use Rattle.adopted_routes.specs.declared.routes.AdoptRefusal.{AdoptRefusal}
use Rattle.adopted_routes.specs.declared.routes.AdoptRefusal.TheVariants.{Unrevoked, Epochs}
use Rattle.adopted_routes.specs.Adopting.{refusal_of, adopt_refusal, RefusedExactly}

kept-or : (kept : Bool) (unrevoked : Option ℕ) (epoch : ℕ) → is_none (if kept then None else refusal_of unrevoked epoch) ≡ (kept || (is_none unrevoked && not (nat_eq epoch last_epoch)))
kept-or true unrevoked epoch = refl
kept-or false (Some h) epoch = refl
kept-or false None epoch = by (nat_eq epoch last_epoch)
  where
    by : (t : Bool) → is_none (let o : Option AdoptRefusal = if t then Some Epochs else None in o) ≡ not t
    by true = refl
    by false = refl

pub refused_exactly : RefusedExactly
refused_exactly s routes None = refl
refused_exactly s routes (Some a) = kept-or (is_kept_in s routes a) s.unrevoked a.epoch

-- routes that are refused may not be adopted, and what names the cause tells whether each host has given the epoch up
pub refused-not : (s : Standing) (routes : List Route) (o : Option Adoption) (r : AdoptRefusal) → adopt_refusal s routes o ≡ Some r → may_adopt_in s routes o ≡ false
refused-not s routes o r e = sym (refused_exactly s routes o) ∙ ap (λ (q : Option AdoptRefusal). is_none q) e

abbrev pub tells-host : AdoptRefusal → Bool
tells-host (Unrevoked h) = true
tells-host _ = false

pub refused-by : (s : Standing) (routes : List Route) (o : Option Adoption) (r : AdoptRefusal) → adopt_refusal s routes o ≡ Some r → is_some s.unrevoked ≡ tells-host r
refused-by s routes None r e = cc
refused-by s routes (Some a) r e = by (is_kept_in s routes a) s.unrevoked (nat_eq a.epoch last_epoch) refl e
  where
    told : (q : AdoptRefusal) → q ≡ r → tells-host q ≡ tells-host r
    told q f = ap tells-host f

    by : (kept : Bool) (u : Option ℕ) (last : Bool) → nat_eq a.epoch last_epoch ≡ last → (if kept then None else refusal_of u a.epoch) ≡ Some r → is_some u ≡ tells-host r
    by true u last l f = cc
    by false (Some h) last l f = told (Unrevoked h) (same_Some (Unrevoked h) r f)
    by false None true l f = told Epochs (same_Some Epochs r (sym (ap (λ b. if b then Some Epochs else None) l) ∙ f))
    by false None false l f = absurd (none (sym (ap (λ b. if b then Some Epochs else None) l) ∙ f))
      where
        none : None ≡ Some r → ⊥
        none g = cc
