-- The parts of an adoptable set fit: its routes lead from hosts to hosts by turns.
use Rattle.std.proofs.Common.{◌≡◌, ◌<◌, ◌≤◌, ◌*◌, ◌^◌, ℕ, zero, suc, Bool, true, false, ◌&&◌, nat_lt, nat_eq, ℤ, pos, List, [], ◌∷◌, map, length, take, drop, Option, Some, None, refl, sym, ap, ◌∙◌, subst, arith, if◌then◌else◌}
use Rattle.std.specs.Prelude.{◌+ℤ◌, option_and_then, find}
use Rattle.std.specs.List.{AllByRecursion, list_all, filter}
use Rattle.std.proofs.lemmas.Bool.Decides.{nat_tests}
use Rattle.std.proofs.lemmas.Int.{ints}
use Rattle.std.proofs.lemmas.Option.{same_Some}
use Rattle.net_defs.specs.declared.vertex.End.{End}
use Rattle.net_defs.specs.declared.place.Place.TheVariants.{Host as AtHost}
use Rattle.net_defs.specs.declared.route.Route.{Route}
use Rattle.net_defs.specs.Turn.{is_turn}
use Rattle.net_defs.specs.Network.{Network, IsFabric, far, has_port, ports_of}
use Rattle.net_defs.specs.Route.{exit_at, entered_after, place_at, place, host_port, IsEntered, IsPlaceOf}
use Rattle.net_defs.proofs.Distinct.{all-weaker}
use Rattle.net_defs.proofs.Places.{far-there, place_at-there}
use Rattle.net_defs.proofs.Cabling.{far_end-holds, far-back, exit-leaves, entered-there, at_most_sixteen}
use Rattle.world_defs.specs.Mapping.{RouteEntry, RoutePart}
use Rattle.gm_defs.proofs.Choices.{both, map-some}
use Rattle.world_defs.specs.Table.{Adoption, route_of, entries_from, part_count, part_entries, part_with, part_for}
use Rattle.table_laws.specs.Set.{IsPartOfSet, IsFit, IsFitPart}

turn-near : (t : ℤ) (port q : ℕ) → pos port ≡ pos q +ℤ t → port < 16 → q < 16 → is_turn t ≡ true
turn-near t port q e low near = grind (arith, ints)

stuck : (n : Network) (walk : List ℤ) (to : ℕ) → place_at (entered_after n None walk) ≡ AtHost to → ⊥
stuck n [] to e = cc
stuck n (t ∷ walk) to e = stuck n walk to e

-- an end with a far end is a port
pub port-there : (n : Network) (x y : End) → IsFabric n → far n x ≡ Some y → has_port n x ≡ true
port-there n x y f g = far_end-holds n.cables (λ e. has_port n e ≡ true) y x f.cabled_ports (far-back n x y f g)

turn-fits : (n : Network) (d x y : End) (turn : ℤ) → IsFabric n → has_port n d ≡ true → exit_at n d.v d.p turn ≡ Some x → far n x ≡ Some y → is_turn turn ≡ true
turn-fits n d x y turn f there e g =
    let l = exit-leaves n d.v d.p turn x e in
    let port : nat_lt l.port (ports_of n d.v) ≡ true = subst (λ z. has_port n z ≡ true) l.is (port-there n x y f g) in
    let few : ports_of n d.v ≤ 16 = at_most_sixteen n d.v f in
    let low : l.port < 16 = grind (arith, nat_tests) in
    let near : d.p < 16 = grind (arith, nat_tests) in
    turn-near turn l.port d.p l.sum low near

walk-fits : (n : Network) (e : Option End) (walk : List ℤ) (to : ℕ) → IsFabric n → IsEntered n e → place_at (entered_after n e walk) ≡ AtHost to → list_all is_turn walk ≡ true
walk-fits n e [] to f there led = refl
walk-fits n None (turn ∷ turns) to f there led = absurd (stuck n turns to led)
walk-fits n (Some d) (turn ∷ turns) to f there led = by (λ y. walk-fits n (Some y) turns to f) (exit_at n d.v d.p turn) refl led
  where
    Rest : Type 0
    Rest = (y : End) → IsEntered n (Some y) → place_at (entered_after n (Some y) turns) ≡ AtHost to → list_all is_turn turns ≡ true

    onward : Rest → (x : End) → exit_at n d.v d.p turn ≡ Some x → (y : Option End) → far n x ≡ y → IsEntered n y → place_at (entered_after n y turns) ≡ AtHost to → list_all is_turn (turn ∷ turns) ≡ true
    onward rest x e None g there_y led = absurd (stuck n turns to led)
    onward rest x e (Some y) g there_y led =
        let a : is_turn turn ≡ true = turn-fits n d x y turn f there e g in
        let b : list_all is_turn turns ≡ true = rest y there_y led in
        rw (a, b) refl

    by : Rest → (x : Option End) → exit_at n d.v d.p turn ≡ x → place_at (entered_after n (option_and_then (far n) x) turns) ≡ AtHost to → list_all is_turn (turn ∷ turns) ≡ true
    by rest None e led = absurd (stuck n turns to led)
    by rest (Some x) e led = onward rest x e (far n x) refl (far-there n x f) led

-- a route whose numbers fit
pub record RouteFits (r : Route) : Type 0 where
  pub from : r.from < 2 ^ 16
  pub to : r.to < 2 ^ 16
  pub turns : list_all is_turn r.walk ≡ true

from-fits : (n : Network) (from : ℕ) (walk : List ℤ) (to : ℕ) → IsFabric n → place n from walk ≡ AtHost to → from < 2 ^ 16
from-fits n from walk to f led = by (far n (host_port from)) refl led
  where
    few : length n.hosts ≤ 128
    few = f.few_hosts

    here : (b : Bool) → nat_lt from (length n.hosts) ≡ b → nat_lt 0 (if b then 1 else 0) ≡ true → from < 2 ^ 16
    here true e t = grind (arith, nat_tests)
    here false e t = absurd (grind (arith, nat_tests))

    by : (o : Option End) → far n (host_port from) ≡ o → place_at (entered_after n o walk) ≡ AtHost to → from < 2 ^ 16
    by None g led = absurd (stuck n walk to led)
    by (Some y) g led = here (nat_lt from (length n.hosts)) refl (port-there n (host_port from) y f g)

to-fits : (n : Network) (from : ℕ) (walk : List ℤ) (to : ℕ) → IsFabric n → place n from walk ≡ AtHost to → to < 2 ^ 16
to-fits n from walk to f led =
    let e = far n (host_port from) in
    let there : IsPlaceOf n (place n from walk) = place_at-there n (entered_after n e walk) (entered-there n e walk f (far-there n (host_port from) f)) in
    let host : nat_lt to (length n.hosts) ≡ true = subst (IsPlaceOf n) led there in
    let few : length n.hosts ≤ 128 = f.few_hosts in
    grind (arith, nat_tests)

pub routes-fit : (n : Network) (routes : List Route) → IsFabric n → AllByRecursion (λ r. place n r.from r.walk ≡ AtHost r.to) routes → AllByRecursion RouteFits routes
routes-fit n routes f lead =
    all-weaker (λ r. place n r.from r.walk ≡ AtHost r.to) RouteFits routes
    (λ r e. record {
      from = from-fits n r.from r.walk r.to f e;
      to = to-fits n r.from r.walk r.to f e;
      turns = walk-fits n (far n (host_port r.from)) r.walk r.to f (far-there n (host_port r.from) f) e;
    })
    lead

-- what holds of each route of a set that leaves a host holds of each entry of the host
pub entries-all : (P : Route → Type 0) (Q : RouteEntry → Type 0) (host : ℕ) (routes : List Route) → ((r : Route) → nat_eq r.from host ≡ true → P r → Q (record { to = r.to; walk = r.walk })) → AllByRecursion P routes → AllByRecursion Q (entries_from routes host)
entries-all P Q host [] f all = tt
entries-all P Q host (r ∷ routes) f all = by (nat_eq r.from host) refl (entries-all P Q host routes f all.1)
  where
    by : (b : Bool) → nat_eq r.from host ≡ b → AllByRecursion Q (entries_from routes host) → AllByRecursion Q (map (λ r. record { to = r.to; walk = r.walk }) (if b then r ∷ filter (λ r. nat_eq r.from host) routes else filter (λ r. nat_eq r.from host) routes))
    by true e rest = (f r e all.0, rest)
    by false e rest = rest

take-all : (P : RouteEntry → Type 0) (k : ℕ) (es : List RouteEntry) → AllByRecursion P es → AllByRecursion P (take k es)
take-all P zero es all = tt
take-all P (suc k) [] all = tt
take-all P (suc k) (e ∷ es) all = (all.0, take-all P k es all.1)

drop-all : (P : RouteEntry → Type 0) (k : ℕ) (es : List RouteEntry) → AllByRecursion P es → AllByRecursion P (drop k es)
drop-all P zero es all = all
drop-all P (suc k) [] all = tt
drop-all P (suc k) (e ∷ es) all = drop-all P k es all.1

found : (P : Route → Type 0) (test : Route → Bool) (rs : List Route) (r : Route) → AllByRecursion P rs → find test rs ≡ Some r → P r × (test r ≡ true)
found P test [] r all e = cc
found P test (x ∷ rs) r all e = by (test x) refl e (found P test rs r all.1)
  where
    by : (b : Bool) → test x ≡ b → (if b then Some x else find test rs) ≡ Some r → (find test rs ≡ Some r → P r × (test r ≡ true)) → P r × (test r ≡ true)
    by true t d rest = subst (λ y. P y × (test y ≡ true)) (same_Some x r d) (all.0, t)
    by false t d rest = rest d

-- a part that is cut from a set
pub part_for-fits : (a : Adoption) (dst part : ℕ) (p : RoutePart) → a.epoch < 2 ^ 32 → AllByRecursion RouteFits a.routes → part_for a dst part ≡ Some p → IsPartOfSet a.epoch a.routes p.dst p × IsFitPart p
part_for-fits a dst part p low fit e = by (nat_eq dst a.mapper) (nat_lt part (part_count (length (entries_from a.routes dst)))) (route_of a.routes dst a.mapper) refl e
  where
    es : List RouteEntry
    es = entries_from a.routes dst

    test : Route → Bool
    test r = nat_eq r.from dst && nat_eq r.to a.mapper

    by : (b c : Bool) (o : Option (List ℤ)) → route_of a.routes dst a.mapper ≡ o → (if b then None else if c then part_with a dst part es o else None) ≡ Some p → IsPartOfSet a.epoch a.routes p.dst p × IsFitPart p
    by true c o g d = cc
    by false false o g d = cc
    by false true None g d = cc
    by false true (Some back) g d =
        let made : RoutePart = record { epoch = a.epoch; mapper = a.mapper; dst = dst; part = part; parts = part_count (length es); back = back; entries = part_entries es part } in
        let m = map-some (λ (r : Route). r.walk) (find test a.routes) back g in
        let r = found RouteFits test a.routes m.0 fit m.1.0 in
        let two = both (nat_eq m.0.from dst) (nat_eq m.0.to a.mapper) r.1 in
        let from : m.0.from ≡ dst = let t = two.0 in grind (arith, nat_tests) in
        let to : m.0.to ≡ a.mapper = let t = two.1 in grind (arith, nat_tests) in
        let all : AllByRecursion IsFit es = entries-all RouteFits IsFit dst a.routes (λ x t y. record { to = y.to; turns = y.turns }) fit in
        let of : IsPartOfSet a.epoch a.routes dst made = record { epoch = refl; parts = refl; entries = refl } in
        let fits : IsFitPart made = record {
          epoch = low;
          mapper = subst (λ k. k < 2 ^ 16) to r.0.to;
          dst = subst (λ k. k < 2 ^ 16) from r.0.from;
          back = ap (list_all is_turn) (sym m.1.1) ∙ r.0.turns;
          entries = take-all IsFit 8 (drop (8 * part) es) (drop-all IsFit (8 * part) es all);
        } in
        subst (λ q. IsPartOfSet a.epoch a.routes q.dst q × IsFitPart q) (same_Some made p d) (of, fits)
