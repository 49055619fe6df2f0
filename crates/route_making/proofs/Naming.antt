-- The hosts of a map, and those of its routes.
use Rattle.std.proofs.Common.{◌≡◌, ◌<◌, ℕ, ℤ, pos, List, [], ◌∷◌, Bool, true, false, true≢false, ◌||◌, length, nat_eq, Option, Some, None, refl, sym, ◌∙◌, arith}
use Rattle.std.specs.Prelude.{is_some, option_map}
use Rattle.std.specs.List.{list_any, AllByRecursion}
use Rattle.std.proofs.lemmas.Bool.Decides.{nat_tests}
use Rattle.net_defs.specs.declared.route.Route.{Route}
use Rattle.net_defs.specs.Network.{Network}
use Rattle.map_defs.specs.declared.vertex.MapVertex.{MapVertex}
use Rattle.map_defs.specs.declared.vertex.MapVertex.TheVariants.{Host, Switch}
use Rattle.map_defs.specs.NetMap.{NetMap, MapPort, hosts_of}
use Rattle.map_defs.specs.Routing.{IsLeastLegal, is_host_named, led_to, vertex_of_host}
use Rattle.fabric_map.proofs.Listings.{position-any}
use Rattle.map_canon.specs.Printing.{IsOfFabric, AreOfFabric}
use Rattle.route_making.specs.Listed.{AreBetweenHosts}

same-either-way : (a b : ℕ) → nat_eq a b ≡ nat_eq b a
same-either-way a b = grind (arith, nat_tests)

named-any : (h : ℕ) (vs : List MapVertex) → list_any (is_host_named h) vs ≡ list_any (nat_eq h) (hosts_of vs)
named-any h [] = refl
named-any h (Host g ∷ vs) = λ i. same-either-way g h i || named-any h vs i
named-any h (Switch s ∷ vs) = named-any h vs

-- a host has a vertex exactly where it is one of the hosts
pub found-any : (m : NetMap) (h : ℕ) → is_some (vertex_of_host m h) ≡ list_any (nat_eq h) (hosts_of m.vertices)
found-any m h = position-any (is_host_named h) m.vertices ∙ named-any h m.vertices

host-below : (f : Network) (h : ℕ) (vs : List MapVertex) → AllByRecursion (IsOfFabric f) vs → list_any (is_host_named h) vs ≡ true → h < length f.hosts
host-below f h [] all e = absurd (true≢false (sym e))
host-below f h (Host g ∷ vs) all e = by (nat_eq g h) refl e (host-below f h vs all.1)
  where
    by : (b : Bool) → nat_eq g h ≡ b → (b || list_any (is_host_named h) vs) ≡ true → (list_any (is_host_named h) vs ≡ true → h < length f.hosts) → h < length f.hosts
    by true t u rest = let one : g < length f.hosts = all.0 in grind (arith, nat_tests)
    by false t u rest = rest u
host-below f h (Switch s ∷ vs) all e = host-below f h vs all.1 e

of-fabric : (f : Network) (m : NetMap) (h : ℕ) → AreOfFabric f m → is_some (vertex_of_host m h) ≡ true → h < length f.hosts
of-fabric f m h all e = host-below f h m.vertices all (sym (position-any (is_host_named h) m.vertices) ∙ e)

pub ends-there : (o : Option ℕ) (at : MapPort) → option_map (λ v. record { v = v; p = pos 0 }) o ≡ Some at → is_some o ≡ true
ends-there None at e = cc
ends-there (Some v) at e = refl

pub begins-there : (m : NetMap) (o : Option ℕ) (turns : List ℤ) (at : MapPort) → led_to m (option_map (λ v. record { v = v; p = pos 0 }) o) turns ≡ Some at → is_some o ≡ true
begins-there m None turns at e = cc
begins-there m (Some v) turns at e = refl

-- the routes of a map go between hosts of the fabric
pub between-hosts : (f : Network) (m : NetMap) (order : List ℕ) (rs : List Route) → AreOfFabric f m → AllByRecursion (λ r. IsLeastLegal m order r.from r.to r.walk) rs → AreBetweenHosts f rs
between-hosts f m order [] all least = tt
between-hosts f m order (r ∷ rs) all least =
    let leads = least.0.leads in (
      (
        of-fabric f m r.from all (begins-there m (vertex_of_host m r.from) r.walk leads.at leads.led),
        of-fabric f m r.to all (ends-there (vertex_of_host m r.to) leads.at leads.is_at),
      ),
      between-hosts f m order rs all least.1,
    )
