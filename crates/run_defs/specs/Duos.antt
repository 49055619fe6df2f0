-- The two hosts that restart, as a session holds them.
use Rattle.std.specs.Prelude.{◌≢◌, Option, Some, None}
use Rattle.duo_defs.specs.declared.event.DuoEvent.{DuoEvent}
use Rattle.duo_defs.specs.Duo.{DuoState, new_duo}
use Rattle.run_defs.specs.declared.command.Command.{Command}
use Rattle.run_defs.specs.declared.command.Command.TheVariants.{Duo}
use Rattle.run_defs.specs.Session.{SessionState}

-- they begin at their first line, both of incarnation 1
abbrev pub begun : Option DuoState → DuoState
begun None = new_duo 1
begun (Some d) = d

-- a session with these two in place of its own
abbrev pub beside : SessionState → Option DuoState → SessionState
beside s d = record s { duo = d }

-- a command is none of theirs
abbrev pub IsOther : Command → Type 0
IsOther c = (e : DuoEvent) → c ≢ Duo e
