-- What a session of a run holds: a map that was right where it says complete, and routes that were.
use Rattle.std.specs.Prelude.{◌≡◌, ℕ, ◌≤◌, List, Some}
use Rattle.std.specs.List.{AllByRecursion}
use Rattle.net_defs.specs.Network.{Network, IsFabric}
use Rattle.net_defs.specs.declared.route.Route.{Route}
use Rattle.world_defs.specs.History.{CableHistory, fabric_at}
use Rattle.map_defs.specs.NetMap.{IsMap, IsConnected}
use Rattle.map_defs.specs.Sameness.{IsMapOfPart}
use Rattle.map_laws.specs.RouteSets.{AreRightRoutes}
use Rattle.world_defs.specs.Table.{Adoption}
use Rattle.run_defs.specs.declared.command.Command.{Command}
use Rattle.run_defs.specs.Output.{Piece}
use Rattle.run_defs.specs.Session.{SessionState, LastMap, LastRoutes, complete_map}
use Rattle.run_defs.specs.Run.{IsRun}
use Rattle.run_defs.specs.Headline.{FitsFabric}

-- A map that is kept: it keeps the rules of maps, is its mapper's part of the fabric, and is connected.
pub record IsRightMap (n : Network) (l : LastMap) : Type 0 where
  pub rules : IsMap l.made
  pub right : IsMapOfPart n l.mapper l.made
  pub connected : IsConnected l.made

-- A map was right in the fabric as it stood when it began.
pub record WasRightMap (h : CableHistory) (l : LastMap) : Type 0 where
  pub past : l.began ≤ h.changes
  pub right : IsRightMap (fabric_at h l.began) l

-- Routes were right in the fabric as it stood after so many changes.
pub record WereRightRoutes (h : CableHistory) (began mapper : ℕ) (routes : List Route) : Type 0 where
  pub past : began ≤ h.changes
  pub right : AreRightRoutes (fabric_at h began) mapper routes

-- A session's last map was right where it says complete; its last routes led to their hosts, joined each two of them,
-- and left no cycle of dependencies in the fabric as it stood when their map began; and so did the routes of the
-- adopted set in the fabric as it stood at the adoption.
pub record HoldsRight (s : SessionState) : Type 0 where
  pub complete : (l : LastMap) → complete_map s.last_map ≡ Some l → WasRightMap s.world.links.cables l
  pub routes : (l : LastRoutes) → s.last_routes ≡ Some l
      → WereRightRoutes s.world.links.cables l.began l.mapper l.routes
  pub adopted : (a : Adoption) → s.world.adopted ≡ Some a
      → WereRightRoutes s.world.links.cables a.at a.mapper a.routes

-- every run of such commands ends in such a session
abbrev pub RunHoldsRight : Type 0
RunHoldsRight = (n : Network) (commands : List Command) (out : List Piece) (last : SessionState) → IsFabric n
    → AllByRecursion (FitsFabric n) commands → IsRun n commands out last → HoldsRight last
