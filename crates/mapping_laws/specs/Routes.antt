-- That a connected map has routes.
use Rattle.std.specs.Prelude.{List}
use Rattle.net_defs.specs.declared.route.Route.{Route}
use Rattle.map_defs.specs.NetMap.{NetMap, IsMap, IsConnected}
use Rattle.map_defs.specs.Orientation.{order_of}
use Rattle.map_defs.specs.Routing.{AreRoutesOf}

-- The least legal route between each two hosts of a connected map exists.
abbrev pub RoutesExist : Type 0
RoutesExist = (m : NetMap) → IsMap m → IsConnected m → (found : List Route) × AreRoutesOf m (order_of m) found
