-- Maps that routes can be computed of, and the routes of such a map.
use Rattle.std.specs.Prelude.{◌≡◌, ℕ, ◌≤◌, length, nat_eq}
use Rattle.std.specs.List.{list_any}
use Rattle.net_defs.specs.Network.{Network, IsFabric}
use Rattle.map_defs.specs.NetMap.{NetMap, IsMap, IsConnected, switches_of}
use Rattle.map_defs.specs.Orientation.{order_of}
use Rattle.map_defs.specs.Routing.{AreRoutesOf}
use Rattle.map_defs.specs.Sameness.{IsMapOfPart}
use Rattle.route_install.specs.Installing.{AreHosts}
use Rattle.adopted_routes.specs.Adopting.{IsAdoptable, is_among}
use Rattle.run_defs.specs.Session.{LastRoutes}
use Rattle.map_canon.specs.Printing.{AreOfFabric}
use Rattle.route_making.specs.Listed.{map_hosts_below}

-- A map from a mapper that routes can be computed of: it is the mapper's part of the fabric, connected, and of no
-- more switches than a fabric has.
pub record IsKeptMap (n : Network) (mapper : ℕ) (m : NetMap) : Type 0 where
  pub rules : IsMap m
  pub right : IsMapOfPart n mapper m
  pub hosts : AreOfFabric n m
  pub connected : IsConnected m
  pub few : length (switches_of m.vertices) ≤ 64

-- Routes that were computed: they are those of such a map, with its hosts by address.
pub record AreKeptRoutes (n : Network) (l : LastRoutes) : Type 0 where
  pub made : NetMap
  pub kept : IsKeptMap n l.mapper made
  pub are : AreRoutesOf made (order_of made) l.routes
  pub hosts : l.hosts ≡ map_hosts_below (length n.hosts) made

-- such routes may be adopted by their mapper
abbrev pub KeptCanBeAdopted : Type 0
KeptCanBeAdopted = (n : Network) (l : LastRoutes) → IsFabric n → AreKeptRoutes n l → IsAdoptable n l.mapper l.routes

-- and their hosts, which rise, are the mapper and those that they name
abbrev pub KeptHostsAreNamed : Type 0
KeptHostsAreNamed = (n : Network) (l : LastRoutes) → AreKeptRoutes n l
    → AreHosts l.hosts × ((h : ℕ) → list_any (nat_eq h) l.hosts ≡ is_among l.mapper l.routes h)
