-- The only route from one host to another is found wherever it stands.
use Rattle.std.proofs.Common.{◌≡◌, ℕ, zero, suc, List, [], ◌∷◌, Bool, true, false, Some, None, ap, sym, ◌∙◌, refl, subst, arith, if◌then◌else◌}
use Rattle.std.specs.Prelude.{slice_get, IfSome}
use Rattle.std.specs.List.{AllByRecursion}
use Rattle.std.proofs.lemmas.Bool.Decides.{nat_tests}
use Rattle.net_defs.specs.declared.route.Route.{Route}
use Rattle.net_defs.specs.RouteSet.{route_below, AreRising}
use Rattle.port_graph.specs.Routes.{goes, walk_of, walk_at}

all-at : (P : Route → Type 0) (rs : List Route) (k : ℕ) (r : Route) → AllByRecursion P rs → slice_get rs k ≡ Some r → P r
all-at P [] k r all e = cc
all-at P (x ∷ xs) zero r all e = let one : x ≡ r = cc in subst P one all.0
all-at P (x ∷ xs) (suc k) r all e = all-at P xs k r all.1 e

below-other : (from to : ℕ) (a b : Route) → route_below a b ≡ true → goes from to b ≡ true → goes from to a ≡ false
below-other from to a b e f = grind (arith, nat_tests)

found-at : (rs : List Route) (from to k : ℕ) (r : Route) → AreRising rs → slice_get rs k ≡ Some r → goes from to r ≡ true → walk_of rs from to ≡ Some r.walk
found-at [] from to k r up e g = cc
found-at (x ∷ xs) from to zero r up e g =
    let one : x ≡ r = cc in
    subst (λ (y : Route). walk_of (y ∷ xs) from to ≡ Some r.walk) (sym one) (ap (λ b. if b then Some r.walk else walk_of xs from to) g)
found-at (x ∷ xs) from to (suc k) r up e g =
    let other = below-other from to x r (all-at (λ s. route_below x s ≡ true) xs k r up.0 e) g in
    ap (λ b. if b then Some x.walk else walk_of xs from to) other ∙ found-at xs from to k r up.1 e g

pub likely-found : (rs : List Route) (from to k : ℕ) (r : Route) → AreRising rs → slice_get rs k ≡ Some r → IfSome (walk_at (Some r) from to) (λ w. walk_of rs from to ≡ Some w)
likely-found rs from to k r up e = by (goes from to r) refl
  where
    by : (b : Bool) → goes from to r ≡ b → IfSome (if b then Some r.walk else None) (λ w. walk_of rs from to ≡ Some w)
    by true g = found-at rs from to k r up e g
    by false g = tt
