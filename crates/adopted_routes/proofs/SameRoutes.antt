-- Two sets are compared route by route.
use Rattle.std.proofs.Common.{◌≡◌, ◌≢◌, suc, Bool, true, false, ◌&&◌, ℤ, List, [], ◌∷◌, length, refl, sym, ap, ◌∙◌, subst, arith}
use Rattle.std.specs.Ordering.{int_eq}
use Rattle.std.specs.Cmp.Lexicographic.{pointwise}
use Rattle.std.specs.Cmp.Rules.{signed_items}
use Rattle.net_defs.specs.declared.route.Route.{Route}
use Rattle.net_defs.specs.Turn.{same_turns}
use Rattle.net_defs.proofs.Turns.{same_turns-true, same_turns-refl}
use Rattle.net_defs.specs.RouteSet.{same_route, same_routes}

-- the two tests of turns
pub turns-agree : (v w : List ℤ) → pointwise int_eq v w ≡ same_turns v w
turns-agree v w = by (pointwise int_eq v w) (same_turns v w) refl refl
  where
    by : (a b : Bool) → pointwise int_eq v w ≡ a → same_turns v w ≡ b → a ≡ b
    by true true p q = refl
    by false false p q = refl
    by true false p q = let same : v ≡ w = (signed_items v w).0 p in sym (subst (λ x. same_turns v x ≡ true) same (same_turns-refl v)) ∙ q
    by false true p q = let same : v ≡ w = same_turns-true v w q in sym p ∙ (signed_items v w).1 same

-- lists of different lengths aren't the same
pub lengths-same : (rs ss : List Route) → length rs ≢ length ss → false ≡ same_routes rs ss
lengths-same [] [] n = absurd (n refl)
lengths-same [] (s ∷ ss) n = refl
lengths-same (r ∷ rs) [] n = refl
lengths-same (r ∷ rs) (s ∷ ss) n = by (same_route r s) (lengths-same rs ss (λ e. n (ap (λ k. suc k) e)))
  where
    by : (b : Bool) → false ≡ same_routes rs ss → false ≡ (b && same_routes rs ss)
    by true e = e
    by false e = refl
