-- Routes that are added to others.
use Rattle.std.specs.Prelude.{◌≡◌, ◌≢◌, ℕ, ◌-◌, ◌<◌, ◌≤◌, List, ◌++◌, length, slice_get, Some}
use Rattle.std.specs.List.{AllByRecursion}
use Rattle.net_defs.specs.declared.route.Route.{Route}
use Rattle.map_defs.specs.NetMap.{NetMap}
use Rattle.map_defs.specs.Routing.{IsLeastLegal}
use Rattle.net_defs.specs.RouteSet.{HasRoute}
use Rattle.route_calc.specs.Hosts.{HostWays}

-- a route between different hosts, the least legal one
pub record IsRightRoute (m : NetMap) (order : List ℕ) (r : Route) : Type 0 where
  pub differ : r.from ≢ r.to
  pub least : IsLeastLegal m order r.from r.to r.walk

-- Right routes were added: one from a host to each other of the first so many hosts, and none to the rest.
pub record AddsRoutes (m : NetMap) (order : List ℕ) (from : ℕ) (ways : List HostWays) (count : ℕ)
    (old new : List Route) : Type 0 where
  pub added : List Route
  pub is : new ≡ old ++ added
  pub right : AllByRecursion (IsRightRoute m order) added
  pub from_there : AllByRecursion (λ r. r.from ≡ from) added
  pub before : (k : ℕ) (w : HostWays) → count ≤ k → slice_get ways k ≡ Some w
      → AllByRecursion (λ r. r.to < w.host) added
  pub whole : (k : ℕ) (w : HostWays) → k < count → slice_get ways k ≡ Some w → from ≢ w.host
      → HasRoute added from w.host

-- the last of some routes is the least legal one, if it leads from this host
abbrev pub IsLastLeast : NetMap → List ℕ → ℕ → List Route → Type 0
IsLastLeast m order from routes = (r : Route) → slice_get routes (length routes - 1) ≡ Some r → r.from ≡ from
    → IsLeastLegal m order r.from r.to r.walk
