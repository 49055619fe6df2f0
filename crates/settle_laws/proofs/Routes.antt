-- The routes of an active table are the adopted set's, and stay so while no host gives up an epoch.
use Rattle.std.proofs.Common.{◌≡◌, ℕ, Bool, true, false, ℤ, List, [], ◌∷◌, nat_eq, Option, Some, None, IfSome, is_some, option_map, refl, sym, ap, ◌∙◌, subst, arith, true≢false, if◌then◌else◌}
use Rattle.std.specs.Prelude.{find, option_and_then}
use Rattle.std.specs.List.{AllByRecursion, list_all}
use Rattle.std.proofs.lemmas.Bool.Decides.{nat_tests}
use Rattle.std.proofs.lemmas.Option.{same_Some}
use Rattle.net_defs.specs.declared.place.Place.TheVariants.{Host as AtHostPlace}
use Rattle.net_defs.specs.declared.route.Route.{Route}
use Rattle.net_defs.specs.Network.{Network}
use Rattle.world_defs.specs.History.{fabric_at}
use Rattle.net_defs.specs.Turn.{is_turn, IsTurn}
use Rattle.net_defs.specs.Route.{place}
use Rattle.world_defs.specs.Mapping.{RouteEntry}
use Rattle.gm_defs.proofs.Choices.{both}
use Rattle.world_defs.specs.Table.{Adoption, ActiveTable, TableState, at_in, entries_from, table_route}
use Rattle.world_defs.specs.Traffic.{routes_in, adopted_routes}
use Rattle.world_defs.specs.World.{WorldState, node_at}
use Rattle.world_defs.specs.declared.event.Event.{Event}
use Rattle.world_defs.specs.Step.{step}
use Rattle.world_defs.specs.Acts.{Happens, IsReached}
use Rattle.world_defs.proofs.Cables.{reached-cables}
use Rattle.table_laws.specs.Set.{IsActive}
use Rattle.table_laws.proofs.Sets.{RouteFits, routes-fit, entries-all}
use Rattle.table_laws.proofs.Steps.{hosts-active}
use Rattle.table_laws.proofs.Dependencies.{reached-of, adopted-adoptable}
use Rattle.settle_laws.proofs.ActiveTables.{IsNoRevoke, acted-stay}
use Rattle.world_defs.proofs.Kept.{step-adopted}

-- the route of a set from a host to another, as its table has it
abbrev pub route_by : List Route → ℕ → ℕ → Option (List ℤ)
route_by routes from to = option_map (λ e. e.walk) (find (λ e. nat_eq e.to to) (entries_from routes from))

-- an active table has the adopted set's routes
active-route : (o : Option Adoption) (h dest : ℕ) (t : Option ActiveTable) → IfSome t (IsActive o h) → is_some t ≡ true → option_and_then (λ a. option_map (λ e. e.walk) (find (λ e. nat_eq e.to dest) a.entries)) t ≡ route_by (routes_in o) h dest
active-route o h dest None is e = absurd (true≢false (sym e))
active-route None h dest (Some t) is e = absurd is
active-route (Some a) h dest (Some t) is e = ap (λ es. option_map (λ e. e.walk) (find (λ e. nat_eq e.to dest) es)) is.entries

pub table-route : (n : Network) (w : WorldState) (h dest : ℕ) → IsReached n w → is_some (node_at w h).table.active ≡ true → table_route (node_at w h).table dest ≡ route_by (adopted_routes w) h dest
table-route n w h dest is e = active-route w.adopted h dest (node_at w h).table.active (hosts-active n w (reached-of n w is) h) e

-- a table with a route is active
pub has-active : (t : TableState) (dest : ℕ) → is_some (table_route t dest) ≡ true → is_some t.active ≡ true
has-active t dest e = by t.active e
  where
    by : (o : Option ActiveTable) → is_some (option_and_then (λ a. option_map (λ e. e.walk) (find (λ e. nat_eq e.to dest) a.entries)) o) ≡ true → is_some o ≡ true
    by None d = d
    by (Some a) d = refl

-- without a set no table is active
has-set : (n : Network) (w : WorldState) (h : ℕ) → IsReached n w → is_some (node_at w h).table.active ≡ true → (x : Adoption) × (w.adopted ≡ Some x)
has-set n w h is e = by (node_at w h).table.active w.adopted refl (hosts-active n w (reached-of n w is) h) e
  where
    by : (t : Option ActiveTable) (o : Option Adoption) → w.adopted ≡ o → IfSome t (IsActive o h) → is_some t ≡ true → (x : Adoption) × (w.adopted ≡ Some x)
    by None o g a d = absurd (true≢false (sym d))
    by (Some t) None g a d = absurd a
    by (Some t) (Some x) g a d = (x, g)

-- a route of a table stays, as long as no host gives up an epoch
pub route-stays : (n : Network) (w : WorldState) (ev : Event) (h dest : ℕ) → IsReached n w → IsNoRevoke (Happens ev) → IsReached n (step w ev).1 → is_some (table_route (node_at w h).table dest) ≡ true → is_some (table_route (node_at (step w ev).1 h).table dest) ≡ true
route-stays n w ev h dest is calm now e =
    let active = has-active (node_at w h).table dest e in
    let x = has-set n w h is active in
    let later = (acted-stay w (Happens ev) calm).each h active in
    let routes : adopted_routes (step w ev).1 ≡ x.0.routes = ap routes_in (step-adopted w ev ∙ x.1) in
    let was : table_route (node_at w h).table dest ≡ route_by x.0.routes h dest = table-route n w h dest is active ∙ ap (λ o. route_by (routes_in o) h dest) x.1 in
    let still : table_route (node_at (step w ev).1 h).table dest ≡ route_by x.0.routes h dest = table-route n (step w ev).1 h dest now later ∙ ap (λ r. route_by r h dest) routes in
    ap is_some (still ∙ sym was) ∙ e

-- a route of a table leads to its host, by turns
record Leads (n : Network) (from to : ℕ) (walk : List ℤ) : Type 0 where
  there : place n from walk ≡ AtHostPlace to
  turns : list_all is_turn walk ≡ true

turns-all : (ts : List ℤ) → list_all is_turn ts ≡ true → AllByRecursion IsTurn ts
turns-all [] e = tt
turns-all (t ∷ ts) e = let two = both (is_turn t) (list_all is_turn ts) e in (two.0, turns-all ts two.1)

found-leads : (n : Network) (h dest : ℕ) (es : List RouteEntry) (walk : List ℤ) → AllByRecursion (λ e. Leads n h e.to e.walk) es → option_map (λ e. e.walk) (find (λ e. nat_eq e.to dest) es) ≡ Some walk → Leads n h dest walk
found-leads n h dest [] walk all e = cc
found-leads n h dest (x ∷ es) walk all e = by (nat_eq x.to dest) refl e (found-leads n h dest es walk all.1)
  where
    by : (b : Bool) → nat_eq x.to dest ≡ b → option_map (λ e. e.walk) (if b then Some x else find (λ e. nat_eq e.to dest) es) ≡ Some walk → (option_map (λ e. e.walk) (find (λ e. nat_eq e.to dest) es) ≡ Some walk → Leads n h dest walk) → Leads n h dest walk
    by true t d rest =
        let same : x.to ≡ dest = grind (arith, nat_tests) in
        subst (Leads n h dest) (same_Some x.walk walk d) (subst (λ k. Leads n h k x.walk) same all.0)
    by false t d rest = rest d

both-all : (n : Network) (routes : List Route) → AllByRecursion (λ r. place n r.from r.walk ≡ AtHostPlace r.to) routes → AllByRecursion RouteFits routes → AllByRecursion (λ r. Leads n r.from r.to r.walk) routes
both-all n [] a b = tt
both-all n (r ∷ rs) a b = (record { there = a.0; turns = b.0.turns }, both-all n rs a.1 b.1)

-- the fabric as it stood at the adoption
abbrev accepted_in : WorldState → Network
accepted_in w = fabric_at w.links.cables w.links.cables.accepted

set-leads : (n : Network) (w : WorldState) (h dest : ℕ) (walk : List ℤ) → IsReached n w → is_some (node_at w h).table.active ≡ true → route_by (adopted_routes w) h dest ≡ Some walk → Leads (accepted_in w) h dest walk
set-leads n w h dest walk is active e =
    let x = has-set n w h is active in
    let k = reached-cables n w is in
    let m : Network = accepted_in w in
    let when : x.0.at ≡ w.links.cables.accepted = sym (ap at_in x.1) ∙ sym k.accepted in
    let then_lead = (adopted-adoptable n w x.0 is x.1).1.lead in
    let lead : AllByRecursion (λ r. place m r.from r.walk ≡ AtHostPlace r.to) x.0.routes = subst (λ j. AllByRecursion (λ r. place (fabric_at w.links.cables j) r.from r.walk ≡ AtHostPlace r.to) x.0.routes) when then_lead in
    let all : AllByRecursion (λ r. Leads m r.from r.to r.walk) x.0.routes = both-all m x.0.routes lead (routes-fit m x.0.routes (k.history.fabrics w.links.cables.accepted) lead) in
    let entries : AllByRecursion (λ e. Leads m h e.to e.walk) (entries_from x.0.routes h) =
    entries-all (λ r. Leads m r.from r.to r.walk) (λ e. Leads m h e.to e.walk) h x.0.routes (λ r t l. let from : r.from ≡ h = grind (arith, nat_tests) in subst (λ k. Leads m k r.to r.walk) from l) all in
    found-leads m h dest (entries_from x.0.routes h) walk entries (sym (ap (λ o. route_by (routes_in o) h dest) x.1) ∙ e)

pub route-leads : (n : Network) (w : WorldState) (h dest : ℕ) (walk : List ℤ) → IsReached n w → table_route (node_at w h).table dest ≡ Some walk → (place (fabric_at w.links.cables w.links.cables.accepted) h walk ≡ AtHostPlace dest) × AllByRecursion IsTurn walk
route-leads n w h dest walk is e =
    let active = has-active (node_at w h).table dest (ap is_some e) in
    let l = set-leads n w h dest walk is active (sym (table-route n w h dest is active) ∙ e) in
    (l.there, turns-all walk l.turns)
