-- In a set of routes, each route is the one from its sender to its receiver.
use Rattle.std.proofs.Common.{◌≡◌, Bool, true, false, ◌&&◌, ◌||◌, nat_eq, nat_lt, List, [], ◌∷◌, Some, option_map, refl, sym, ap, ◌∙◌, arith, true≢false, if◌then◌else◌}
use Rattle.std.specs.Prelude.{find}
use Rattle.std.specs.List.{AllByRecursion}
use Rattle.std.proofs.lemmas.Bool.Decides.{nat_tests, Decides-eqb}
use Rattle.net_defs.specs.declared.route.Route.{Route}
use Rattle.net_defs.specs.RouteSet.{route_below, AreRising}
use Rattle.world_defs.specs.Table.{route_of}

-- a route below another is of other hosts
below-other : (r s : Route) → route_below r s ≡ true → (nat_eq r.from s.from && nat_eq r.to s.to) ≡ false
below-other r s low = by (nat_lt r.from s.from) (nat_eq r.from s.from) (nat_lt r.to s.to) (nat_eq r.to s.to) refl refl refl refl low
  where
    by : (p q t u : Bool) → nat_lt r.from s.from ≡ p → nat_eq r.from s.from ≡ q → nat_lt r.to s.to ≡ t → nat_eq r.to s.to ≡ u → (p || (q && t)) ≡ true → (q && u) ≡ false
    by p false t u a b c d e = refl
    by p true t false a b c d e = refl
    by true true t true a b c d e = grind (arith, nat_tests)
    by false true true true a b c d e = grind (arith, nat_tests)
    by false true false true a b c d e = absurd (true≢false (sym e))

-- the routes above one have their own
owned-above : (r : Route) (rs ss : List Route) → AllByRecursion (λ s. route_below r s ≡ true) ss → AllByRecursion (λ s. route_of rs s.from s.to ≡ Some s.walk) ss → AllByRecursion (λ s. route_of (r ∷ rs) s.from s.to ≡ Some s.walk) ss
owned-above r rs [] low own = tt
owned-above r rs (s ∷ ss) low own =
    (ap (λ b. option_map (λ r. r.walk) (if b then Some r else find (λ r. nat_eq r.from s.from && nat_eq r.to s.to) rs)) (below-other r s low.0) ∙ own.0, owned-above r rs ss low.1 own.1)

pub routes-owned : (rs : List Route) → AreRising rs → AllByRecursion (λ s. route_of rs s.from s.to ≡ Some s.walk) rs
routes-owned [] up = tt
routes-owned (r ∷ rs) up =
    let same : (nat_eq r.from r.from && nat_eq r.to r.to) ≡ true = rw ((Decides-eqb r.from r.from).1 refl) ((Decides-eqb r.to r.to).1 refl) in
    (ap (λ b. option_map (λ s. s.walk) (if b then Some r else find (λ s. nat_eq s.from r.from && nat_eq s.to r.to) rs)) same, owned-above r rs rs up.0 (routes-owned rs up.1))
