-- Routes that may be adopted go from hosts to hosts, and each host has few of them.
use Rattle.std.proofs.Common.{◌≡◌, ◌<◌, ◌≤◌, ◌+◌, ℕ, Bool, true, false, nat_eq, nat_lt, ℤ, List, [], ◌∷◌, length, Option, Some, None, refl, sym, subst, arith, if◌then◌else◌}
use Rattle.std.specs.List.{AllByRecursion, filter}
use Rattle.std.proofs.lemmas.Bool.Decides.{nat_tests}
use Rattle.std.proofs.lemmas.List.{length-map}
use Rattle.net_defs.specs.declared.vertex.End.{End}
use Rattle.net_defs.specs.declared.place.Place.TheVariants.{Host as AtHost}
use Rattle.net_defs.specs.declared.route.Route.{Route}
use Rattle.net_defs.specs.Network.{Network, IsFabric, far, has_port}
use Rattle.net_defs.specs.Route.{entered_after, place_at, place, host_port, IsPlaceOf}
use Rattle.net_defs.proofs.Distinct.{all-weaker}
use Rattle.net_defs.proofs.Places.{far-there, place_at-there}
use Rattle.net_defs.proofs.Cabling.{far_end-holds, far-back, entered-there}
use Rattle.net_defs.specs.RouteSet.{route_below, AreRising}
use Rattle.port_graph.specs.Routes.{AreShort}
use Rattle.world_defs.specs.Mapping.{RouteEntry}
use Rattle.world_defs.specs.Table.{entries_from}
use Rattle.adopted_routes.specs.Adopting.{IsAdoptable, IsSetOfHosts}

stuck : (n : Network) (walk : List ℤ) (to : ℕ) → place_at (entered_after n None walk) ≡ AtHost to → ⊥
stuck n [] to e = cc
stuck n (t ∷ walk) to e = stuck n walk to e

-- an end with a far end is a port
port-there : (n : Network) (x y : End) → IsFabric n → far n x ≡ Some y → has_port n x ≡ true
port-there n x y f g = far_end-holds n.cables (λ e. has_port n e ≡ true) y x f.cabled_ports (far-back n x y f g)

-- a walk that leads to a host is from one
from-there : (n : Network) (from : ℕ) (walk : List ℤ) (to : ℕ) → IsFabric n → place n from walk ≡ AtHost to → from < length n.hosts
from-there n from walk to f led = by (far n (host_port from)) refl led
  where
    here : (b : Bool) → nat_lt from (length n.hosts) ≡ b → nat_lt 0 (if b then 1 else 0) ≡ true → from < length n.hosts
    here true e t = grind (arith, nat_tests)
    here false e t = absurd (grind (arith, nat_tests))

    by : (o : Option End) → far n (host_port from) ≡ o → place_at (entered_after n o walk) ≡ AtHost to → from < length n.hosts
    by None g led = absurd (stuck n walk to led)
    by (Some y) g led = here (nat_lt from (length n.hosts)) refl (port-there n (host_port from) y f g)

to-there : (n : Network) (from : ℕ) (walk : List ℤ) (to : ℕ) → IsFabric n → place n from walk ≡ AtHost to → to < length n.hosts
to-there n from walk to f led =
    let e = far n (host_port from) in
    let there : IsPlaceOf n (place n from walk) = place_at-there n (entered_after n e walk) (entered-there n e walk f (far-there n (host_port from) f)) in
    let host : nat_lt to (length n.hosts) ≡ true = subst (IsPlaceOf n) led there in
    grind (arith, nat_tests)

ends-there : (n : Network) (hosts : ℕ) (routes : List Route) → IsFabric n → hosts ≡ length n.hosts → AllByRecursion (λ r. place n r.from r.walk ≡ AtHost r.to) routes
    → AllByRecursion (λ r. (r.from < hosts) × (r.to < hosts)) routes
ends-there n hosts routes f count lead =
    all-weaker (λ r. place n r.from r.walk ≡ AtHost r.to) (λ r. (r.from < hosts) × (r.to < hosts)) routes
    (λ r e. (subst (λ k. r.from < k) (sym count) (from-there n r.from r.walk r.to f e), subst (λ k. r.to < k) (sym count) (to-there n r.from r.walk r.to f e)))
    lead

-- routes from one host rise by their receivers
abbrev above : (h low : ℕ) → Route → Type 0
above h low s = nat_eq s.from h ≡ true → low ≤ s.to

next-above : (h : ℕ) (r s : Route) → nat_eq r.from h ≡ true → route_below r s ≡ true → nat_eq s.from h ≡ true → r.to + 1 ≤ s.to
next-above h r s e l t = grind (arith, nat_tests)

-- so there are no more of them than receivers from the least on
few-from : (h low hosts : ℕ) (rs : List Route) → low ≤ hosts → AreRising rs → AllByRecursion (above h low) rs → AllByRecursion (λ r. (r.from < hosts) × (r.to < hosts)) rs
    → length (filter (λ r. nat_eq r.from h) rs) + low ≤ hosts
few-from h low hosts [] few up over ends = omega (arith, few)
few-from h low hosts (r ∷ rs) few up over ends = by (nat_eq r.from h) refl (λ l within past. few-from h l hosts rs within up.1 past ends.1)
  where
    from_h : List Route
    from_h = filter (λ r. nat_eq r.from h) rs

    by : (b : Bool) → nat_eq r.from h ≡ b → ((l : ℕ) → l ≤ hosts → AllByRecursion (above h l) rs → length from_h + l ≤ hosts) → length (if b then r ∷ from_h else from_h) + low ≤ hosts
    by true e rest =
        let first : low ≤ r.to = over.0 e in
        let last : r.to < hosts = ends.0.1 in
        let others = rest (r.to + 1) (omega (arith, last)) (all-weaker (λ s. route_below r s ≡ true) (above h (r.to + 1)) rs (λ s l t. next-above h r s e l t) up.0) in
        omega (arith, first, others)
    by false e rest = rest low few over.1

pub few-entries : (h hosts : ℕ) (rs : List Route) → AreRising rs → AllByRecursion (λ r. (r.from < hosts) × (r.to < hosts)) rs → length (entries_from rs h) ≤ hosts
few-entries h hosts rs up ends =
    let count : length (entries_from rs h) ≡ length (filter (λ r. nat_eq r.from h) rs) = length-map (filter (λ r. nat_eq r.from h) rs) (λ r. let e : RouteEntry = record { to = r.to; walk = r.walk } in e) in
    let few = few-from h 0 hosts rs (omega arith) up (all-weaker (λ r. (r.from < hosts) × (r.to < hosts)) (above h 0) rs (λ s e t. omega arith) ends) ends in
    omega (arith, count, few)

pub set-of-hosts : (n : Network) (hosts mapper epoch at : ℕ) (routes : List Route) → IsFabric n → hosts ≡ length n.hosts → mapper < hosts → AreRising routes → AreShort routes → IsAdoptable n mapper routes
    → IsSetOfHosts hosts (record { mapper = mapper; epoch = epoch; at = at; routes = routes })
set-of-hosts n hosts mapper epoch at routes f count low up short may =
    let ends = ends-there n hosts routes f count may.lead in
    let small : length n.hosts ≤ 128 = f.few_hosts in
    record { mapper = low; ends = ends; in_order = up; short = short; whole = may.whole; apart = may.apart; few = λ h. let few = few-entries h hosts routes up ends in omega (arith, few, small, count) }
