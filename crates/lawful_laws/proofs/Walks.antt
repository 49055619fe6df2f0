-- Walks of a set: each is that of a route of the set from its host, whether a table, a part or a way back holds it.
use Rattle.std.proofs.Common.{◌≡◌, ◌<◌, ◌⊎◌, ℕ, zero, suc, Bool, true, false, ◌&&◌, nat_eq, nat_lt, length, ℤ, List, [], ◌∷◌, ◌++◌, map, Option, Some, None, IfSome, refl, sym, ap, subst, ◌∙◌, arith, if◌then◌else◌}
use Rattle.std.specs.Prelude.{find, option_map}
use Rattle.std.specs.List.{AllByRecursion, slice_get, filter, list_all}
use Rattle.std.proofs.lemmas.Bool.Decides.{nat_tests}
use Rattle.std.proofs.lemmas.Option.{same_Some}
use Rattle.net_defs.specs.declared.route.Route.{Route}
use Rattle.net_defs.specs.Turn.{is_turn}
use Rattle.net_defs.specs.Route.{host_port}
use Rattle.packet_defs.specs.declared.kind.Kind.{Kind}
use Rattle.packet_defs.specs.Packet.{packet_of}
use Rattle.world_defs.specs.History.{CableHistory, IsHistory, stood_at, is_left}
use Rattle.world_defs.specs.Crossed.{leaving, channels_by, channels_at, life_tail, is_new}
use Rattle.world_defs.proofs.Fewer.{fewer_front}
use Rattle.world_defs.proofs.Pulled.{left_stood}
use Rattle.world_defs.proofs.ForLife.{leaving_has_its_end}
use Rattle.world_defs.specs.Mapping.{RouteEntry, RoutePart}
use Rattle.gm_defs.proofs.Choices.{both, map-some, then-some}
use Rattle.world_defs.specs.Table.{Adoption, ActiveTable, TableState, entries_from, part_count, part_with, part_for, route_of, table_route}
use Rattle.world_defs.specs.Traffic.{routes_in}
use Rattle.table_laws.specs.Set.{IsActive}
use Rattle.table_laws.proofs.Sets.{RouteFits}
use Rattle.lawful_laws.proofs.Ahead.{IsLedBy, front-built}

-- The routes of an epoch.
pub record Era : Type 0 where
  pub number : ℕ
  pub routes : List Route

-- what is of an epoch before, or of this one, and then so
abbrev pub IsOfEra : Era → ℕ → Type 0 → Type 0
IsOfEra era epoch P = (epoch < era.number) ⊎ ((epoch ≡ era.number) × P)

-- a walk of a set from a host
pub record IsWalkFrom (routes : List Route) (host : ℕ) (walk : List ℤ) : Type 0 where
  pub place : ℕ
  pub route : Route
  pub there : slice_get routes place ≡ Some route
  pub from : route.from ≡ host
  pub is : route.walk ≡ walk

pub all-at : {X : Type 0} (P : X → Type 0) (xs : List X) (k : ℕ) (x : X) → AllByRecursion P xs → slice_get xs k ≡ Some x → P x
all-at P [] k x all e = cc
all-at P (y ∷ xs) zero x all e = subst P (same_Some y x e) all.0
all-at P (y ∷ xs) (suc k) x all e = all-at P xs k x all.1 e

found-route : (test : Route → Bool) (rs : List Route) (r : Route) → find test rs ≡ Some r → (place : ℕ) × ((slice_get rs place ≡ Some r) × (test r ≡ true))
found-route test [] r e = cc
found-route test (x ∷ rs) r e = by (test x) refl e (found-route test rs r)
  where
    by : (b : Bool) → test x ≡ b → (if b then Some x else find test rs) ≡ Some r → (find test rs ≡ Some r → (place : ℕ) × ((slice_get rs place ≡ Some r) × (test r ≡ true))) → (place : ℕ) × ((slice_get (x ∷ rs) place ≡ Some r) × (test r ≡ true))
    by true t d rest = let same : x ≡ r = same_Some x r d in (0, (ap Some same, subst (λ y. test y ≡ true) same t))
    by false t d rest = let m = rest d in (suc m.0, m.1)

pub route_of-walk : (routes : List Route) (from to : ℕ) (walk : List ℤ) → route_of routes from to ≡ Some walk → IsWalkFrom routes from walk
route_of-walk routes from to walk e =
    let test : Route → Bool = λ r. nat_eq r.from from && nat_eq r.to to in
    let m = map-some (λ (r : Route). r.walk) (find test routes) walk e in
    let x = found-route test routes m.0 m.1.0 in
    let t = (both (nat_eq m.0.from from) (nat_eq m.0.to to) x.1.1).0 in
    let same : m.0.from ≡ from = grind (arith, nat_tests) in
    record { place = x.0; route = m.0; there = x.1.0; from = same; is = m.1.1 }

-- the way back of a part that is cut from a set
pub part-back : (a : Adoption) (dst part : ℕ) (p : RoutePart) → part_for a dst part ≡ Some p → IsWalkFrom a.routes p.dst p.back
part-back a dst part p e = by (nat_eq dst a.mapper) (nat_lt part (part_count (length es))) (route_of a.routes dst a.mapper) refl e
  where
    es : List RouteEntry
    es = entries_from a.routes dst

    by : (b c : Bool) (o : Option (List ℤ)) → route_of a.routes dst a.mapper ≡ o → (if b then None else if c then part_with a dst part es o else None) ≡ Some p → IsWalkFrom a.routes p.dst p.back
    by true c o g d = cc
    by false false o g d = cc
    by false true None g d = cc
    by false true (Some back) g d =
        subst (λ (q : RoutePart). IsWalkFrom a.routes q.dst q.back) (same_Some _ p d) (route_of-walk a.routes dst a.mapper back g)

-- the entries of a host's table
behind-first : (r : Route) (routes : List Route) (host : ℕ) (walk : List ℤ) → IsWalkFrom routes host walk → IsWalkFrom (r ∷ routes) host walk
behind-first r routes host walk x = record { place = suc x.place; route = x.route; there = x.there; from = x.from; is = x.is }

abbrev as_entry : Route → RouteEntry
as_entry r = record { to = r.to; walk = r.walk }

entry-walk : (host : ℕ) (test : RouteEntry → Bool) (routes : List Route) (e : RouteEntry) → find test (entries_from routes host) ≡ Some e → IsWalkFrom routes host e.walk
entry-walk host test [] e d = cc
entry-walk host test (r ∷ routes) e d = by (nat_eq r.from host) refl d (λ f. behind-first r routes host e.walk (entry-walk host test routes e f))
  where
    others : List Route
    others = filter (λ x. nat_eq x.from host) routes

    first : nat_eq r.from host ≡ true → (t : Bool) → (if t then Some (as_entry r) else find test (map as_entry others)) ≡ Some e → (find test (map as_entry others) ≡ Some e → IsWalkFrom (r ∷ routes) host e.walk) → IsWalkFrom (r ∷ routes) host e.walk
    first f true g rest =
        let same : as_entry r ≡ e = same_Some (as_entry r) e g in
        let from : r.from ≡ host = grind (arith, nat_tests) in
        record { place = 0; route = r; there = refl; from = from; is = ap (λ (x : RouteEntry). x.walk) same }
    first f false g rest = rest g

    by : (b : Bool) → nat_eq r.from host ≡ b → find test (map as_entry (if b then r ∷ others else others)) ≡ Some e → (find test (map as_entry others) ≡ Some e → IsWalkFrom (r ∷ routes) host e.walk) → IsWalkFrom (r ∷ routes) host e.walk
    by true f g rest = first f (test (as_entry r)) g rest
    by false f g rest = rest g

active-walk : (o : Option Adoption) (host to : ℕ) (walk : List ℤ) (t : ActiveTable) → IsActive o host t → option_map (λ (e : RouteEntry). e.walk) (find (λ (e : RouteEntry). nat_eq e.to to) t.entries) ≡ Some walk → IsWalkFrom (routes_in o) host walk
active-walk None host to walk t is e = absurd is
active-walk (Some a) host to walk t is e =
    let test : RouteEntry → Bool = λ x. nat_eq x.to to in
    let m = map-some (λ (x : RouteEntry). x.walk) (find test t.entries) walk e in
    subst (IsWalkFrom a.routes host) m.1.1 (entry-walk host test a.routes m.0 (ap (find test) (sym is.entries) ∙ m.1.0))

pub table-walk : (o : Option Adoption) (host to : ℕ) (walk : List ℤ) (t : TableState) → IfSome t.active (IsActive o host) → table_route t to ≡ Some walk → IsWalkFrom (routes_in o) host walk
table-walk o host to walk t is e =
    let m = then-some (λ (a : ActiveTable). option_map (λ (x : RouteEntry). x.walk) (find (λ (x : RouteEntry). nat_eq x.to to) a.entries)) t.active walk e in
    active-walk o host to walk m.0 (subst (λ x. IfSome x (IsActive o host)) m.1.0 is) m.1.1

-- a walk of a set has turns
pub walk-turns : (routes : List Route) (host : ℕ) (walk : List ℤ) → AllByRecursion RouteFits routes → IsWalkFrom routes host walk → list_all is_turn walk ≡ true
walk-turns routes host walk fit x = ap (list_all is_turn) (sym x.is) ∙ (all-at RouteFits routes x.place x.route fit x.there).turns

-- a packet that a host puts into its channel is led by the route whose walk it has
pub led-start : (h : CableHistory) (routes : List Route) (c host : ℕ) (walk : List ℤ) (kind : Kind) (payload : List ℕ) → IsHistory h → AllByRecursion RouteFits routes → leaving h (host_port host) ≡ Some c → is_new h c ≡ false → IsWalkFrom routes host walk → IsLedBy h routes c (packet_of walk kind payload)
led-start h routes c host walk kind payload is fit e old x =
    let turns = walk-turns routes host walk fit x in
    let front = front-built walk kind payload turns in
    let tail : life_tail h c ≡ Some (host_port host) = (leaving_has_its_end h (host_port host) c e).tail in
    let before = fewer_front h h (is_left h) (stood_at h.accepted) (Some (host_port host)) walk (is.fabrics h.accepted) (left_stood h) in
    record {
      accepted = old;
      place = x.place;
      route = x.route;
      behind = [];
      beyond = before.rest;
      there = x.there;
      within = (λ i. channels_at h h.accepted (x.from i) (x.is i)) ∙ before.whole ∙ (λ i. channels_by h (is_left h) (sym tail i) (sym front i) ++ before.rest);
    }
