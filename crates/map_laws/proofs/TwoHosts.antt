-- The laws applied to two hosts at one switch.
use Rattle.std.proofs.Common.{◌≡◌, ◌≢◌, ℕ, zero, suc, List, Some, sym, ◌∙◌, subst, [], ◌∷◌, refl, arith, rules}
use Rattle.std.specs.Prelude.{pos, negsuc}
use Rattle.net_defs.specs.Examples.{two_hosts}
use Rattle.journal_defs.specs.Examples.{two_hosts_journal}
use Rattle.journal_defs.specs.Growth.{IsClosed}
use Rattle.net_defs.proofs.TwoHosts.{two_hosts_fabric}
use Rattle.journal_defs.proofs.Grown.{two_hosts_true, two_hosts_grown, two_hosts_closed}
use Rattle.map_defs.specs.NetMap.{IsMap, IsConnected, host_of_vertex}
use Rattle.map_defs.specs.Orientation.{order_of}
use Rattle.map_defs.specs.Routing.{LeadsTo, AreRoutesOf}
use Rattle.net_defs.specs.RouteSet.{HasRoute}
use Rattle.map_defs.specs.Sameness.{IsMapOfPart, graph_of_map}
use Rattle.net_defs.specs.Dependencies.{IsBefore, HasNoCycle}
use Rattle.map_defs.specs.Ranks.{IsCertificate}
use Rattle.map_defs.specs.Examples.{two_hosts_map, moved_map, route, port}
use Rattle.map_defs.proofs.Certified.{certificate-by, least-by}
use Rattle.map_defs.proofs.Moved.{moved_is_same}
use Rattle.map_defs.proofs.Places.{places_are_an_order}
use Rattle.map_defs.proofs.Sameness.{same-back, same_map_is_right}
use Rattle.map_defs.proofs.TwoHosts.{two_hosts_quotient}
use Rattle.map_laws.proofs.Truly.{true-where}
use Rattle.map_laws.specs.Leading.{HasHost, AreFromHosts, channels_in_fabric}
use Rattle.map_laws.specs.RouteSets.{AreRightRoutes}
use Rattle.map_laws.specs.Examples.{two_hosts_routes, two_hosts_ranks}
use Rattle.map_laws.proofs.Assembly.{closed_map_is_right}
use Rattle.map_laws.proofs.Connected.{quotient_is_connected}
use Rattle.map_laws.proofs.Ruled.{quotient_is_map}
use Rattle.map_laws.proofs.Landing.{routes_lead_in_the_fabric}
use Rattle.map_laws.proofs.NoCycle.{certificate_holds_in_the_fabric}
use Rattle.map_laws.proofs.RightRoutes.{routes_of_a_right_map_are_right}

pub closed : IsClosed 0 two_hosts_journal
closed = record { expanded = two_hosts_closed }

pub right : IsMapOfPart two_hosts 0 two_hosts_map
right = closed_map_is_right two_hosts 0 4 two_hosts_journal two_hosts_map two_hosts_fabric two_hosts_true two_hosts_grown closed two_hosts_quotient

pub moved : IsMapOfPart two_hosts 0 moved_map
moved = same_map_is_right two_hosts 0 two_hosts_map moved_map (same-back (graph_of_map two_hosts_map) (graph_of_map moved_map) moved_is_same) right

pub connected : IsConnected two_hosts_map
connected = quotient_is_connected 0 4 two_hosts_journal two_hosts_map two_hosts_grown two_hosts_quotient

two_hosts_rules : IsMap two_hosts_map
two_hosts_rules = quotient_is_map two_hosts 0 two_hosts_journal two_hosts_map two_hosts_fabric (true-where two_hosts 0 two_hosts_journal two_hosts_true) two_hosts_quotient

first_host : HasHost two_hosts_map 0
first_host = record { vertex = 0; there = refl }

second_host : HasHost two_hosts_map 1
second_host = record { vertex = 2; there = refl }

-- by the law from the place in the fabric
pub leads : LeadsTo two_hosts_map 0 1 (pos 3 ∷ [])
leads = (routes_lead_in_the_fabric two_hosts 0 0 1 two_hosts_map (pos 3 ∷ []) two_hosts_fabric two_hosts_rules right first_host).1 refl

pub ranked : IsCertificate two_hosts_map two_hosts_routes two_hosts_ranks
ranked = certificate-by two_hosts_map two_hosts_routes two_hosts_ranks refl refl

from_hosts : AreFromHosts two_hosts_map two_hosts_routes
from_hosts = (first_host, (second_host, tt))

pub no_cycle : HasNoCycle (IsBefore (channels_in_fabric two_hosts two_hosts_routes))
no_cycle = certificate_holds_in_the_fabric two_hosts 0 two_hosts_map two_hosts_routes two_hosts_ranks two_hosts_fabric two_hosts_rules right from_hosts ranked

-- the routes are the least legal ones
abbrev places : List ℕ
places = 1 ∷ 0 ∷ 2 ∷ []

two_hosts_whole : (v w a b : ℕ) → host_of_vertex two_hosts_map v ≡ Some a → host_of_vertex two_hosts_map w ≡ Some b → a ≢ b → HasRoute two_hosts_routes a b
two_hosts_whole zero zero a b e f d = let x : 0 ≡ a = cc in let y : 0 ≡ b = cc in absurd (d (sym x ∙ y))
two_hosts_whole zero (suc zero) a b e f d = cc
two_hosts_whole zero (suc (suc zero)) a b e f d = let x : 0 ≡ a = cc in let y : 1 ≡ b = cc in record { place = 0; route = route 0 1 (pos 3 ∷ []); there = refl; from = x; to = y }
two_hosts_whole zero (suc (suc (suc w))) a b e f d = cc
two_hosts_whole (suc zero) w a b e f d = cc
two_hosts_whole (suc (suc zero)) zero a b e f d = let x : 1 ≡ a = cc in let y : 0 ≡ b = cc in record { place = 1; route = route 1 0 (negsuc 2 ∷ []); there = refl; from = x; to = y }
two_hosts_whole (suc (suc zero)) (suc zero) a b e f d = cc
two_hosts_whole (suc (suc zero)) (suc (suc zero)) a b e f d = let x : 1 ≡ a = cc in let y : 1 ≡ b = cc in absurd (d (sym x ∙ y))
two_hosts_whole (suc (suc zero)) (suc (suc (suc w))) a b e f d = cc
two_hosts_whole (suc (suc (suc v))) w a b e f d = cc

places_are : AreRoutesOf two_hosts_map places two_hosts_routes
places_are = record {
  in_order = search rules;
  between_hosts = ((λ z. absurd (omega arith)), ((λ z. absurd (omega arith)), tt));
  least = (least-by two_hosts_map places 0 1 (pos 3 ∷ []) (port 0 (pos 0)) (port 2 (pos 0)) refl refl refl refl refl, (least-by two_hosts_map places 1 0 (negsuc 2 ∷ []) (port 2 (pos 0)) (port 0 (pos 0)) refl refl refl refl refl, tt));
  whole = two_hosts_whole;
}

order_is : order_of two_hosts_map ≡ places
order_is = refl

pub routes_are : AreRoutesOf two_hosts_map (order_of two_hosts_map) two_hosts_routes
routes_are = subst (λ o. AreRoutesOf two_hosts_map o two_hosts_routes) (sym order_is) places_are

pub right_routes : AreRightRoutes two_hosts 0 two_hosts_routes
right_routes = routes_of_a_right_map_are_right two_hosts 0 two_hosts_map (order_of two_hosts_map) two_hosts_routes two_hosts_fabric two_hosts_rules right (places_are_an_order two_hosts_map) routes_are
