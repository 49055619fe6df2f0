-- What a run holds from command to command: the world, the last map, the last routes, and the two hosts that restart.
use Rattle.std.specs.Prelude.{ℕ, Bool, true, false, cond, List, Option, Some, None}
use Rattle.net_defs.specs.declared.route.Route.{Route}
use Rattle.net_defs.specs.Network.{Network}
use Rattle.map_defs.specs.NetMap.{NetMap}
use Rattle.world_defs.specs.World.{WorldState, new_world}
use Rattle.duo_defs.specs.Duo.{DuoState}
use Rattle.run_defs.specs.declared.line.MapWords.{MapWords}
use Rattle.run_defs.specs.declared.line.MapWords.TheVariants.{Complete, Doubtful, IncompleteDepth, IncompleteNodes}

-- The last map was made by this mapper, these words say how far it is known to be right, and it began after so many
-- changes of cables. Where the tree had too many nodes it has no vertices.
pub record LastMap : Type 0 where
  pub mapper : ℕ
  pub words : MapWords
  pub made : NetMap
  pub began : ℕ

-- The routes that were computed last stand with the mapper of their map, its hosts by address, and the number of
-- changes of cables at which it began.
pub record LastRoutes : Type 0 where
  pub mapper : ℕ
  pub hosts : List ℕ
  pub routes : List Route
  pub began : ℕ

-- What a run holds, and all that a command's acts and lines depend on, as it stands before it: the world; the last map
-- line with its map, and the last routes with the mapper, the hosts and the beginning of their map, where there are
-- any; and the two hosts that restart, once they have begun.
pub record SessionState : Type 0 where
  pub world : WorldState
  pub last_map : Option LastMap
  pub last_routes : Option LastRoutes
  pub duo : Option DuoState

-- the session of a fabric before its first command
abbrev pub new_session : Network → SessionState
new_session n = record { world = new_world n; last_map = None; last_routes = None; duo = None }

-- a map says complete
abbrev pub is_complete : MapWords → Bool
is_complete Complete = true
is_complete (Doubtful n) = false
is_complete IncompleteDepth = false
is_complete IncompleteNodes = false

-- the last map, where it is complete
abbrev pub complete_map : Option LastMap → Option LastMap
complete_map None = None
complete_map (Some l) = cond (is_complete l.words) (Some l) None
