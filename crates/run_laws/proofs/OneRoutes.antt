-- A map has one list of routes: each pair of hosts has one least legal route, and the list rises by pairs.
use Rattle.std.proofs.Common.{◌≡◌, ◌≢◌, ℕ, List, [], ◌∷◌, true, Option, Some, None, refl, sym, ◌∙◌, subst, true≢false, arith}
use Rattle.std.specs.Prelude.{ℤ}
use Rattle.std.proofs.lemmas.Bool.Decides.{nat_tests}
use Rattle.net_defs.specs.declared.route.Route.{Route}
use Rattle.journal_defs.proofs.Asking.{not_apart}
use Rattle.journal_defs.proofs.Members.{IsMember, all-member}
use Rattle.map_defs.specs.NetMap.{NetMap, MapPort}
use Rattle.map_defs.specs.Routing.{LeadsTo, IsLeastLegal, AreRoutesOf, led_to, port_of_host}
use Rattle.net_defs.specs.RouteSet.{AreRising as AreRisingRoutes, route_below}
use Rattle.map_laws.specs.Leading.{HasHost}
use Rattle.map_laws.proofs.Landing.{port-host}
use Rattle.map_laws.proofs.OneMap.{AreRising, rising-one, place-member}
use Rattle.run_laws.specs.Runs.{RoutesAreOne}

-- where turns lead on from a host, the map has it
from-host : (m : NetMap) (a b : ℕ) (turns : List ℤ) → LeadsTo m a b turns → HasHost m a
from-host m a b turns l = by (port_of_host m a) refl l.led
  where
    by : (o : Option MapPort) → port_of_host m a ≡ o → led_to m o turns ≡ Some l.at → HasHost m a
    by None e f = cc
    by (Some d) e f = record { vertex = d.v; there = (port-host m a d e).0 }

-- a pair of hosts has one least legal route
least-one : (m : NetMap) (order : List ℕ) (a b : ℕ) (v w : List ℤ) → IsLeastLegal m order a b v → IsLeastLegal m order a b w → v ≡ w
least-one m order a b v w least other =
    not_apart v w (λ below. true≢false (sym below ∙ other.least v least.leads least.legal)) (λ below. true≢false (sym below ∙ least.least w other.leads other.legal))

route-one : (r s : Route) → r.from ≡ s.from → r.to ≡ s.to → r.walk ≡ s.walk → r ≡ s
route-one r s a b c = λ i. record { from = a i; to = b i; walk = c i }

-- each route of one list is a route of the other
route-there : (m : NetMap) (order : List ℕ) (found others : List Route) → AreRoutesOf m order found → AreRoutesOf m order others → (r : Route) → IsMember r found → IsMember r others
route-there m order found others f o r i =
    let least = all-member (λ (x : Route). IsLeastLegal m order x.from x.to x.walk) r found f.least i in
    let apart = all-member (λ (x : Route). x.from ≢ x.to) r found f.between_hosts i in
    let from = from-host m r.from r.to r.walk least.leads in
    let to = port-host m r.to least.leads.at least.leads.is_at in
    let has = o.whole from.vertex least.leads.at.v r.from r.to from.there to.0 apart in
    let member = place-member others has.place has.route has.there in
    let other = all-member (λ (x : Route). IsLeastLegal m order x.from x.to x.walk) has.route others o.least member in
    let moved = subst (λ a. IsLeastLegal m order a r.to has.route.walk) has.from (subst (λ b. IsLeastLegal m order has.route.from b has.route.walk) has.to other) in
    subst (λ x. IsMember x others) (route-one has.route r has.from has.to (least-one m order r.from r.to has.route.walk r.walk moved least)) member

-- no two routes stand each before the other
below-asym : (r s : Route) → route_below r s ≡ true → route_below s r ≡ true → ⊥
below-asym r s a b = grind (arith, nat_tests)

rising : (routes : List Route) → AreRisingRoutes routes → AreRising (λ r s. route_below r s ≡ true) routes
rising [] all = tt
rising (r ∷ rs) all = (all.0, rising rs all.1)

pub routes_are_one : RoutesAreOne
routes_are_one m order found others f o =
    rising-one (λ r s. route_below r s ≡ true) below-asym found others (rising found f.in_order) (rising others o.in_order) (route-there m order found others f o) (route-there m order others found o f)
