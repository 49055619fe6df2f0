-- What the lines of routes say: they are of a complete map, which is right, and ranks rise along each.
use Rattle.std.specs.Prelude.{◌≡◌, ◌⊎◌, ◌≤◌, List, [], ◌∷◌, ◌++◌, map, length, Some, None}
use Rattle.std.specs.List.{AllByRecursion}
use Rattle.net_defs.specs.declared.route.Route.{Route}
use Rattle.net_defs.specs.Network.{Network, IsFabric}
use Rattle.world_defs.specs.History.{fabric_at}
use Rattle.map_defs.specs.Orientation.{order_of}
use Rattle.map_defs.specs.declared.rank.RankEntry.{RankEntry}
use Rattle.map_defs.specs.Ranks.{IsCertificate}
use Rattle.map_defs.specs.Routing.{AreRoutesOf}
use Rattle.map_defs.specs.Sameness.{IsMapOfPart}
use Rattle.map_laws.specs.RouteSets.{AreRightRoutes}
use Rattle.run_defs.specs.declared.command.Command.{Command}
use Rattle.run_defs.specs.declared.command.Command.TheVariants.{Routes}
use Rattle.run_defs.specs.declared.line.Line.TheVariants.{NoMap, Routes as RoutesLine, EndRoutes}
use Rattle.run_defs.specs.Output.{Piece, lines}
use Rattle.run_defs.specs.Session.{SessionState, LastMap, complete_map}
use Rattle.run_defs.specs.Run.{Does, IsRun, route_line, rank_line}
use Rattle.run_defs.specs.Headline.{FitsFabric}

-- The lines are the routes of the last map, which is complete and was its mapper's part of the fabric as it stood when
-- the map began: the least legal one for each two hosts. Each led in that fabric to its host, and the ranks of the
-- lines rise along each.
pub record AreRoutesLines (s : SessionState) (printed : List Piece) : Type 0 where
  pub last : LastMap
  pub found : List Route
  pub complete : complete_map s.last_map ≡ Some last
  pub past : last.began ≤ s.world.links.cables.changes
  pub part : IsMapOfPart (fabric_at s.world.links.cables last.began) last.mapper last.made
  pub ranks : List RankEntry
  pub lines_are : printed ≡ lines (RoutesLine (length found) ∷ map route_line found
      ++ map (rank_line last.made) ranks ++ EndRoutes ∷ [])
  pub routes : AreRoutesOf last.made (order_of last.made) found
  pub right : AreRightRoutes (fabric_at s.world.links.cables last.began) last.mapper found
  pub ranked : IsCertificate last.made found ranks

-- routes are refused exactly where the last map isn't complete; else the lines are such
abbrev pub AreRoutesTold : SessionState → List Piece → Type 0
AreRoutesTold s printed =
    ((complete_map s.last_map ≡ None) × (printed ≡ lines (NoMap ∷ []))) ⊎ AreRoutesLines s printed

-- whatever a command `routes` prints after a run is that
abbrev pub PrintedRoutesAreRight : Type 0
PrintedRoutesAreRight =
    (n : Network) (commands : List Command) (out printed : List Piece) (s next : SessionState) → IsFabric n
    → AllByRecursion (FitsFabric n) commands → IsRun n commands out s → Does s Routes printed next
    → AreRoutesTold s printed
