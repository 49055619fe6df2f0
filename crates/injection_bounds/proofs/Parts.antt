-- The last routes of a run give each host at most sixteen parts: they go to hosts that rise.
use Rattle.std.proofs.Common.{◌≡◌, ◌≤◌, ◌<◌, ◌+◌, ◌&&◌, ◌||◌, ℕ, Bool, true, false, List, [], ◌∷◌, length, nat_eq, nat_lt, refl, arith, if◌then◌else◌}
use Rattle.std.specs.List.{AllByRecursion, filter, range_with_len}
use Rattle.std.proofs.lemmas.Bool.Decides.{nat_tests}
use Rattle.std.proofs.lemmas.List.{length-map}
use Rattle.std.proofs.lemmas.List.FromFn.{length-range_with_len}
use Rattle.net_defs.specs.declared.place.Place.TheVariants.{Host as AtHost}
use Rattle.net_defs.specs.declared.route.Route.{Route}
use Rattle.net_defs.specs.Network.{Network, IsFabric}
use Rattle.net_defs.specs.Route.{place}
use Rattle.net_defs.specs.RouteSet.{route_below, AreRising}
use Rattle.world_defs.specs.History.{CableHistory, fabric_at}
use Rattle.world_defs.specs.Mapping.{RouteEntry}
use Rattle.world_defs.specs.Table.{Adoption, part_count, entries_from}
use Rattle.world_defs.specs.World.{WorldState}
use Rattle.run_defs.specs.Session.{LastRoutes}
use Rattle.run_defs.specs.Outcome.{set_of}
use Rattle.ask_laws.proofs.Tries.{place-there}
use Rattle.world_defs.specs.Acts.{AreAdoptable}
use Rattle.run_laws.specs.InstallLines.{IsSetOfMap}
use Rattle.run_laws.proofs.Ranked.{right_routes_are_adoptable}
use Rattle.injection_bounds.specs.Commands.{HasFewParts}

-- A route from a host to one of so many, from a number on.
record IsFrom (host least most : ℕ) (r : Route) : Type 0 where
  from : r.from ≡ host
  low : least ≤ r.to
  high : r.to < most

-- routes from one host that rise go to hosts that rise
next-to : (r s : Route) → r.from ≡ s.from → route_below r s ≡ true → r.to < s.to
next-to r s same e = by (nat_lt r.from s.from) (nat_eq r.from s.from) (nat_lt r.to s.to) refl refl e
  where
    by : (a b c : Bool) → nat_lt r.from s.from ≡ a → nat_lt r.to s.to ≡ c → (a || (b && c)) ≡ true → r.to < s.to
    by true b c f g h = let low : r.from < s.from = grind (arith, nat_tests) in absurd (omega (arith, low, same))
    by false true true f g h = grind (arith, nat_tests)
    by false true false f g h = cc
    by false false c f g h = cc

all-next : (host least most : ℕ) (r : Route) (rs : List Route) → r.from ≡ host → AllByRecursion (λ s. route_below r s ≡ true) rs → AllByRecursion (IsFrom host least most) rs → AllByRecursion (IsFrom host (r.to + 1) most) rs
all-next host least most r [] e up all = tt
all-next host least most r (s ∷ rs) e up all =
    let f : s.from ≡ host = all.0.from in
    let same : r.from ≡ s.from = omega (arith, e, f) in
    let next = next-to r s same up.0 in
    (record { from = f; low = omega (arith, next); high = all.0.high }, all-next host least most r rs e up.1 all.1)

rising-few : (host most : ℕ) (rs : List Route) (least : ℕ) → least ≤ most → AreRising rs → AllByRecursion (IsFrom host least most) rs → least + length rs ≤ most
rising-few host most [] least low up all = omega (arith, low)
rising-few host most (r ∷ rs) least low up all =
    let one : IsFrom host least most r = all.0 in
    let a = one.low in
    let b = one.high in
    let rest = rising-few host most rs (r.to + 1) (omega (arith, b)) up.1 (all-next host least most r rs one.from up.0 all.1) in
    omega (arith, a, rest)

-- the routes of a set from one host
all-filter : (P : Route → Type 0) (t : Route → Bool) (rs : List Route) → AllByRecursion P rs → AllByRecursion P (filter t rs)
all-filter P t [] all = tt
all-filter P t (r ∷ rs) all = by (t r) (all-filter P t rs all.1)
  where
    by : (b : Bool) → AllByRecursion P (filter t rs) → AllByRecursion P (if b then r ∷ filter t rs else filter t rs)
    by true rest = (all.0, rest)
    by false rest = rest

rising-filter : (t : Route → Bool) (rs : List Route) → AreRising rs → AreRising (filter t rs)
rising-filter t [] up = tt
rising-filter t (r ∷ rs) up = by (t r) (all-filter (λ s. route_below r s ≡ true) t rs up.0) (rising-filter t rs up.1)
  where
    by : (b : Bool) → AllByRecursion (λ s. route_below r s ≡ true) (filter t rs) → AreRising (filter t rs) → AreRising (if b then r ∷ filter t rs else filter t rs)
    by true all rest = (all, rest)
    by false all rest = rest

from-filter : (host most : ℕ) (rs : List Route) → AllByRecursion (λ r. r.to < most) rs → AllByRecursion (IsFrom host 0 most) (filter (λ r. nat_eq r.from host) rs)
from-filter host most [] all = tt
from-filter host most (r ∷ rs) all = by (nat_eq r.from host) refl (from-filter host most rs all.1)
  where
    by : (b : Bool) → nat_eq r.from host ≡ b → AllByRecursion (IsFrom host 0 most) (filter (λ r. nat_eq r.from host) rs)
        → AllByRecursion (IsFrom host 0 most) (if b then r ∷ filter (λ r. nat_eq r.from host) rs else filter (λ r. nat_eq r.from host) rs)
    by true e rest = (record { from = grind (arith, nat_tests); low = omega arith; high = all.0 }, rest)
    by false e rest = rest

abbrev entry : Route → RouteEntry
entry r = record { to = r.to; walk = r.walk }

few-parts : (n : Network) (a : Adoption) → IsFabric n → AreRising a.routes → AllByRecursion (λ r. r.to < length n.hosts) a.routes → HasFewParts a
few-parts n a f up low host = by (nat_eq host a.mapper)
  where
    mine : List Route
    mine = filter (λ r. nat_eq r.from host) a.routes

    few : length (entries_from a.routes host) ≤ 128
    few =
        let rising = rising-few host (length n.hosts) mine 0 (omega arith) (rising-filter (λ r. nat_eq r.from host) a.routes up) (from-filter host (length n.hosts) a.routes low) in
        let hosts = f.few_hosts in
        let same : length (entries_from a.routes host) ≡ length mine = length-map mine entry in
        omega (arith, rising, hosts, same)

    by : (b : Bool) → length (if b then [] else range_with_len 0 (part_count (length (entries_from a.routes host)))) ≤ 16
    by true = omega arith
    by false =
        let long : length (range_with_len 0 (part_count (length (entries_from a.routes host)))) ≡ part_count (length (entries_from a.routes host)) = length-range_with_len 0 (part_count (length (entries_from a.routes host))) in
        let sixteen : part_count (length (entries_from a.routes host)) ≤ 16 = omega (arith, few) in
        omega (arith, long, sixteen)

-- each route leads to a host
all-low : (n : Network) (rs : List Route) → IsFabric n → AllByRecursion (λ r. place n r.from r.walk ≡ AtHost r.to) rs → AllByRecursion (λ r. r.to < length n.hosts) rs
all-low n [] f all = tt
all-low n (r ∷ rs) f all = (place-there n r.from r.to r.walk f all.0, all-low n rs f all.1)

pub set-parts : (h : CableHistory) (w : WorldState) (l : LastRoutes) → IsFabric (fabric_at h l.began) → IsSetOfMap h l → HasFewParts (set_of w l)
set-parts h w l f k =
    let n : Network = fabric_at h l.began in
    let may : AreAdoptable n l.routes = right_routes_are_adoptable n l.mapper k.made l.routes f k.rules k.right k.routes in
    few-parts n (set_of w l) f k.routes.in_order (all-low n l.routes f may.lead)
