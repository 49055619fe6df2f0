-- The broken routes of the adopted set are those that are stuck over what is left of the fabric.
use Rattle.std.proofs.Common.{◌≡◌, ℕ, Bool, false, List, [], ◌∷◌, map, Option, Some, None, option_map, refl, sym, ap, ◌∙◌, subst, if◌then◌else◌}
use Rattle.std.specs.Prelude.{Result, Ok, Err, IfOk}
use Rattle.std.specs.List.{AllByRecursion, filter, list_any}
use Rattle.std.specs.Option.{option_map_or}
use Rattle.net_defs.specs.declared.place.Place.TheVariants.{Host as AtHost}
use Rattle.net_defs.specs.declared.route.Route.{Route}
use Rattle.net_defs.specs.Network.{Network}
use Rattle.net_defs.specs.Route.{place}
use Rattle.net_defs.specs.RouteSet.{AreRising}
use Rattle.world_defs.specs.History.{fabric_at}
use Rattle.world_defs.specs.Crossed.{channels_at, is_cut}
use Rattle.world_defs.specs.Table.{Adoption, at_in, route_of}
use Rattle.world_defs.specs.World.{WorldState}
use Rattle.world_defs.specs.Traffic.{routes_in, adopted_routes, is_cut_walk, is_broken}
use Rattle.world_defs.specs.Acts.{IsReached}
use Rattle.table_laws.specs.Acts.{HasHistory}
use Rattle.table_laws.proofs.Dependencies.{cables-are_history, adopted-adoptable}
use Rattle.fab_remap.specs.Remap.{hosts_of, broken_pairs, is_stuck, stuck_pairs}
use Rattle.fab_remap.proofs.Owned.{routes-owned}
use Rattle.fab_remap.proofs.Stopped.{route-stopped}

-- tests that agree on a list keep the same of it
filter-same : {X : Type 0} (p q : X → Bool) (xs : List X) → AllByRecursion (λ x. p x ≡ q x) xs → filter p xs ≡ filter q xs
filter-same p q [] all = refl
filter-same p q (x ∷ xs) all = λ i. if all.0 i then x ∷ filter-same p q xs all.1 i else filter-same p q xs all.1 i

same-routes : (rs ss : List Route) → Some rs ≡ Some ss → rs ≡ ss
same-routes rs ss e = cc

module _ (n : Network) (w : WorldState) (a : Adoption) (r : IsReached n w) (adopted : w.adopted ≡ Some a) where
  h : HasHistory n w
  h = cables-are_history n w r

  at : a.at ≡ w.links.cables.accepted
  at = ap at_in (sym adopted) ∙ sym h.accepted

  broken-stuck : (s : Route) → route_of a.routes s.from s.to ≡ Some s.walk → place (fabric_at w.links.cables a.at) s.from s.walk ≡ AtHost s.to → is_broken w s.from s.to ≡ is_stuck w s
  broken-stuck s own leads =
      let route : route_of (adopted_routes w) s.from s.to ≡ Some s.walk = ap (λ o. route_of (routes_in o) s.from s.to) adopted ∙ own in
      let led : place (fabric_at w.links.cables w.links.cables.accepted) s.from s.walk ≡ AtHost s.to = ap (λ k. place (fabric_at w.links.cables k) s.from s.walk) (sym at) ∙ leads in
      ap (λ o. option_map_or (is_cut_walk w s.from) o false) route
      ∙ ap (λ k. list_any (is_cut w.links.cables) (channels_at w.links.cables k s.from s.walk)) (sym h.accepted)
      ∙ route-stopped w.links.cables s.from s.to s.walk h.history led

  each-stuck : (rs : List Route) → AllByRecursion (λ s. route_of a.routes s.from s.to ≡ Some s.walk) rs → AllByRecursion (λ s. place (fabric_at w.links.cables a.at) s.from s.walk ≡ AtHost s.to) rs
      → AllByRecursion (λ s. is_broken w s.from s.to ≡ is_stuck w s) rs
  each-stuck [] own leads = tt
  each-stuck (s ∷ rs) own leads = (broken-stuck s own.0 leads.0, each-stuck rs own.1 leads.1)

  pub pairs-stuck : AreRising a.routes → stuck_pairs w a.routes ≡ broken_pairs w
  pairs-stuck up =
      let all = each-stuck a.routes (routes-owned a.routes up) (adopted-adoptable n w a r adopted).1.lead in
      let same : filter (λ s. is_broken w s.from s.to) a.routes ≡ filter (is_stuck w) a.routes = filter-same (λ s. is_broken w s.from s.to) (is_stuck w) a.routes all in
      ap (map hosts_of) (sym same) ∙ ap (λ o. map hosts_of (filter (λ s. is_broken w s.from s.to) (routes_in o))) (sym adopted)

-- so where some are adopted
pub pairs-some : (n : Network) (w : WorldState) (routes : List Route) → IsReached n w → AreRising routes → Some routes ≡ option_map (λ a. a.routes) w.adopted → stuck_pairs w routes ≡ broken_pairs w
pairs-some n w routes r up e = by w.adopted refl e
  where
    by : (o : Option Adoption) → w.adopted ≡ o → Some routes ≡ option_map (λ a. a.routes) o → stuck_pairs w routes ≡ broken_pairs w
    by None k f = cc
    by (Some a) k f =
        let same : routes ≡ a.routes = same-routes routes a.routes f in
        ap (stuck_pairs w) same ∙ pairs-stuck n w a r k (subst AreRising same up)

-- and where none are
pub pairs-none : (w : WorldState) → None ≡ option_map (λ a. a.routes) w.adopted → [] ≡ broken_pairs w
pairs-none w e = by w.adopted refl e
  where
    by : (o : Option Adoption) → w.adopted ≡ o → None ≡ option_map (λ a. a.routes) o → [] ≡ broken_pairs w
    by None k f = ap (λ o. map hosts_of (filter (λ s. is_broken w s.from s.to) (routes_in o))) (sym k)
    by (Some a) k f = cc

-- an answer of the one is one of the other
pub pairs-told : {E : Type 0} (r : Result (List (ℕ × ℕ)) E) (xs ys : List (ℕ × ℕ)) → xs ≡ ys → IfOk r (λ l. l ≡ xs) → IfOk r (λ l. l ≡ ys)
pairs-told (Ok l) xs ys same is = is ∙ same
pairs-told (Err e) xs ys same is = is
