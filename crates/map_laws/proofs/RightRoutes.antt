-- The routes of a right map lead in the fabric, join all hosts of the part, and have no cycle.
use Rattle.std.proofs.Common.{◌≡◌, ℕ, List, [], ◌∷◌, Option, Some, None, sym, ◌∙◌, ap, refl}
use Rattle.std.specs.Prelude.{ℤ}
use Rattle.std.specs.List.{AllByRecursion}
use Rattle.net_defs.specs.declared.vertex.Vertex.TheVariants.{Host}
use Rattle.net_defs.specs.declared.place.Place.TheVariants.{Host as AtHost}
use Rattle.net_defs.specs.declared.route.Route.{Route}
use Rattle.net_defs.specs.Network.{Network, IsFabric}
use Rattle.net_defs.specs.Route.{place}
use Rattle.journal_defs.specs.Part.{IsInPart}
use Rattle.map_defs.specs.NetMap.{NetMap, MapPort, IsMap, host_of_vertex}
use Rattle.map_defs.specs.Routing.{LeadsTo, IsLeastLegal, led_to, port_of_host}
use Rattle.map_defs.specs.Ranks.{ranks_of}
use Rattle.map_defs.specs.Sameness.{IsMapOfPart, address_of}
use Rattle.map_defs.proofs.Certifying.{ranks_certify}
use Rattle.map_laws.specs.Leading.{HasHost, AreFromHosts}
use Rattle.map_laws.specs.RouteSets.{RoutesOfARightMapAreRight}
use Rattle.map_laws.proofs.Landing.{port-host, routes_lead_in_the_fabric}
use Rattle.map_laws.proofs.NoCycle.{certificate_holds_in_the_fabric}

-- where turns lead on from a host, the map has it
leads-from_host : (m : NetMap) (a b : ℕ) (turns : List ℤ) → LeadsTo m a b turns → HasHost m a
leads-from_host m a b turns l = by (port_of_host m a) refl l.led
  where
    by : (o : Option MapPort) → port_of_host m a ≡ o → led_to m o turns ≡ Some l.at → HasHost m a
    by None e f = cc
    by (Some d) e f = record { vertex = d.v; there = (port-host m a d e).0 }

from_hosts : (m : NetMap) (order : List ℕ) (routes : List Route) → AllByRecursion (λ r. IsLeastLegal m order r.from r.to r.walk) routes → AreFromHosts m routes
from_hosts m order [] all = tt
from_hosts m order (r ∷ rs) all = (leads-from_host m r.from r.to r.walk all.0.leads, from_hosts m order rs all.1)

all-lead : (n : Network) (host : ℕ) (m : NetMap) (order : List ℕ) (routes : List Route) → IsFabric n → IsMap m → IsMapOfPart n host m → AllByRecursion (λ r. IsLeastLegal m order r.from r.to r.walk) routes → AllByRecursion (λ r. place n r.from r.walk ≡ AtHost r.to) routes
all-lead n host m order [] fabric rules same all = tt
all-lead n host m order (r ∷ rs) fabric rules same all =
    let leads = all.0.leads in
    ((routes_lead_in_the_fabric n host r.from r.to m r.walk fabric rules same (leads-from_host m r.from r.to r.walk leads)).0 leads, all-lead n host m order rs fabric rules same all.1)

-- each host of the part is one of the map
part-host : (n : Network) (host : ℕ) (m : NetMap) (a : ℕ) (same : IsMapOfPart n host m) → IsInPart n host (Host a) → host_of_vertex m (same.origin (Host a)) ≡ Some a
part-host n host m a same i = sym (same.addresses (same.origin (Host a)) (same.origin_in (Host a) i)) ∙ ap address_of (same.image_origin (Host a) i)

pub routes_of_a_right_map_are_right : RoutesOfARightMapAreRight
routes_of_a_right_map_are_right n host m order routes fabric rules same ordered r = record {
  leads = all-lead n host m order routes fabric rules same r.least;
  whole = λ a b i k differ. r.whole (same.origin (Host a)) (same.origin (Host b)) a b (part-host n host m a same i) (part-host n host m b same k) differ;
  no_cycle = certificate_holds_in_the_fabric n host m routes (ranks_of m order) fabric rules same (from_hosts m order routes r.least) (ranks_certify m order routes rules ordered r.least);
}
