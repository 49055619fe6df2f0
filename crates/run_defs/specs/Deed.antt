-- What a command is: a deed, of acts in order, of what is printed, and of what is kept of it. The world after it
-- follows from its acts.
use Rattle.std.specs.Prelude.{List, [], Some}
use Rattle.world_defs.specs.Acts.{Act, acted_all}
use Rattle.duo_defs.specs.Duo.{DuoState}
use Rattle.run_defs.specs.declared.line.Line.{Line}
use Rattle.run_defs.specs.Output.{Piece, lines}
use Rattle.run_defs.specs.Session.{SessionState, LastMap, LastRoutes}

-- What a session keeps of a command beside the world: nothing, the last map, the last routes, or the two hosts that
-- restart.
pub data Note : Type 0 where
  Nothing : Note
  KeepsMap : LastMap → Note
  KeepsRoutes : LastRoutes → Note
  KeepsDuo : DuoState → Note

-- What a command is: its acts in order, what it prints, and what is kept of it.
pub record Deed : Type 0 where
  pub acts : List Act
  pub output : List Piece
  pub note : Note

-- a session with what is kept
abbrev pub noted : SessionState → Note → SessionState
noted s Nothing = s
noted s (KeepsMap l) = record s { last_map = Some l }
noted s (KeepsRoutes l) = record s { last_routes = Some l }
noted s (KeepsDuo d) = record s { duo = Some d }

-- the session after a deed: its acts lead to the world
abbrev pub session_after : SessionState → Deed → SessionState
session_after s d = noted (record s { world = acted_all s.world d.acts }) d.note

-- lines alone, without an act
abbrev pub says : List Line → Deed
says ls = record { acts = []; output = lines ls; note = Nothing }
