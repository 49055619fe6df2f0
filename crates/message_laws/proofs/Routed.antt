-- A host to which a table has a route is one of the fabric.
use Rattle.std.proofs.Common.{◌≡◌, ◌<◌, ℕ, Bool, true, false, List, [], ◌∷◌, length, nat_eq, is_none, Option, Some, None, IfSome, option_map, refl, sym, subst, arith, if◌then◌else◌}
use Rattle.std.specs.Prelude.{find, option_and_then}
use Rattle.std.specs.List.{AllByRecursion}
use Rattle.std.proofs.lemmas.Bool.Decides.{nat_tests}
use Rattle.net_defs.specs.declared.place.Place.TheVariants.{Host as AtHost}
use Rattle.net_defs.specs.declared.route.Route.{Route}
use Rattle.net_defs.specs.Network.{Network}
use Rattle.net_defs.specs.Route.{place}
use Rattle.world_defs.specs.History.{fabric_at}
use Rattle.world_defs.specs.Mapping.{RouteEntry}
use Rattle.world_defs.specs.Table.{Adoption, ActiveTable, table_route, entries_from}
use Rattle.world_defs.specs.World.{WorldState, node_at}
use Rattle.world_defs.specs.Acts.{IsReached}
use Rattle.world_defs.proofs.Cables.{reached-cables}
use Rattle.table_laws.specs.Set.{IsActive}
use Rattle.table_laws.proofs.Sets.{entries-all}
use Rattle.table_laws.proofs.Steps.{hosts-active}
use Rattle.table_laws.proofs.Dependencies.{reached-of, adopted-adoptable}
use Rattle.ask_laws.proofs.Tries.{place-there}

-- an entry that was found
found-below : (count to : ℕ) (es : List RouteEntry) → AllByRecursion (λ e. e.to < count) es → is_none (option_map (λ e. e.walk) (find (λ e. nat_eq e.to to) es)) ≡ false → to < count
found-below count to [] all e = cc
found-below count to (x ∷ es) all e = by (nat_eq x.to to) refl (found-below count to es all.1) e
  where
    by : (b : Bool) → nat_eq x.to to ≡ b → (is_none (option_map (λ e. e.walk) (find (λ e. nat_eq e.to to) es)) ≡ false → to < count) → is_none (option_map (λ e. e.walk) (if b then Some x else find (λ e. nat_eq e.to to) es)) ≡ false → to < count
    by true t rest d = let low = all.0 in let same : x.to ≡ to = grind (arith, nat_tests) in omega (arith, low, same)
    by false t rest d = rest d

pub route-there : (n : Network) (w : WorldState) (h dest : ℕ) → IsReached n w → is_none (table_route (node_at w h).table dest) ≡ false → dest < length n.hosts
route-there n w h dest is e = by (node_at w h).table.active refl (hosts-active n w (reached-of n w is) h) e
  where
    of_set : (o : Option Adoption) (t : ActiveTable) → w.adopted ≡ o → IsActive o h t → is_none (option_map (λ e. e.walk) (find (λ e. nat_eq e.to dest) t.entries)) ≡ false → dest < length n.hosts
    of_set None t a active d = absurd active
    of_set (Some a) t same active d =
        let lead = (adopted-adoptable n w a is same).1.lead in
        let k = reached-cables n w is in
        let past = k.history.fabrics a.at in
        let there = λ (r : Route) (p : place (fabric_at w.links.cables a.at) r.from r.walk ≡ AtHost r.to). subst (λ hs. r.to < length hs) k.hosts (place-there (fabric_at w.links.cables a.at) r.from r.to r.walk past p) in
        let below : AllByRecursion (λ e. e.to < length n.hosts) (entries_from a.routes h) = entries-all _ (λ e. e.to < length n.hosts) h a.routes (λ r from p. there r p) lead in
        found-below (length n.hosts) dest t.entries (subst (AllByRecursion (λ e. e.to < length n.hosts)) (sym active.entries) below) d

    by : (o : Option ActiveTable) → (node_at w h).table.active ≡ o → IfSome o (IsActive w.adopted h) → is_none (option_and_then (λ a. option_map (λ e. e.walk) (find (λ e. nat_eq e.to dest) a.entries)) o) ≡ false → dest < length n.hosts
    by None a active d = cc
    by (Some t) a active d = of_set w.adopted t refl active d
