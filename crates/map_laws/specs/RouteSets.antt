-- What the routes of a right map are worth in the fabric.
use Rattle.std.specs.Prelude.{◌≡◌, ◌≢◌, ℕ, List, length}
use Rattle.std.specs.List.{AllByRecursion}
use Rattle.net_defs.specs.declared.vertex.Vertex.TheVariants.{Host}
use Rattle.net_defs.specs.declared.place.Place.TheVariants.{Host as AtHost}
use Rattle.net_defs.specs.declared.route.Route.{Route}
use Rattle.net_defs.specs.Network.{Network, IsFabric}
use Rattle.net_defs.specs.Route.{place}
use Rattle.journal_defs.specs.Part.{IsInPart}
use Rattle.map_defs.specs.NetMap.{NetMap, IsMap}
use Rattle.map_defs.specs.Orientation.{IsOrder}
use Rattle.net_defs.specs.RouteSet.{HasRoute}
use Rattle.map_defs.specs.Routing.{AreRoutesOf}
use Rattle.map_defs.specs.Sameness.{IsMapOfPart}
use Rattle.net_defs.specs.Dependencies.{IsBefore, HasNoCycle}
use Rattle.map_laws.specs.Leading.{channels_in_fabric}

-- Each route leads in the fabric itself to its host, each two hosts of the mapper's part have one, and the channels
-- that they cross have no cycle of dependencies.
pub record AreRightRoutes (n : Network) (host : ℕ) (routes : List Route) : Type 0 where
  pub leads : AllByRecursion (λ r. place n r.from r.walk ≡ AtHost r.to) routes
  pub whole : (a b : ℕ) → IsInPart n host (Host a) → IsInPart n host (Host b) → a ≢ b → HasRoute routes a b
  pub no_cycle : HasNoCycle (IsBefore (channels_in_fabric n routes))

-- The routes of a right map are such, whatever the order of its vertices is.
abbrev pub RoutesOfARightMapAreRight : Type 0
RoutesOfARightMapAreRight = (n : Network) (host : ℕ) (m : NetMap) (order : List ℕ) (routes : List Route) → IsFabric n
    → IsMap m → IsMapOfPart n host m → IsOrder order (length m.vertices) → AreRoutesOf m order routes
    → AreRightRoutes n host routes
