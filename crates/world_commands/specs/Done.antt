-- That a command was done over a world, whatever else a session holds, and what it printed.
use Rattle.std.specs.Prelude.{◌≡◌, List, Option, Some, None}
use Rattle.world_defs.specs.declared.event.Event.{Event}
use Rattle.world_defs.specs.World.{WorldState, fabric_of}
use Rattle.run_defs.specs.declared.command.Command.{Command}
use Rattle.run_defs.specs.declared.command.Command.TheVariants.{Walk, Map, Circuit, Routes, Install, Begin}
use Rattle.run_defs.specs.declared.command.Command.TheVariants.{Close, Poll, Tokens, Provide, Send, Settle, Duo}
use Rattle.run_defs.specs.declared.command.Command.TheVariants.{Pull, Plug, Revoke, Broken}
use Rattle.run_defs.specs.declared.line.ClientCall.{ClientCall}
use Rattle.run_defs.specs.Outcome.{calling, kind_of, outcome}
use Rattle.run_defs.specs.Output.{Piece}
use Rattle.run_defs.specs.Session.{SessionState, LastMap, LastRoutes}
use Rattle.fab_report.specs.Printed.{PrintedState, printed_of}
use Rattle.fab_world.specs.declared.clients.PortAt.{PortAt}
use Rattle.world_commands.specs.declared.requests.SendRequest.{SendRequest}

-- a session with a world, a last map and last routes, in which the two hosts that restart have not begun
abbrev pub session_of : WorldState → Option LastMap → Option LastRoutes → SessionState
session_of w made found = record { world = w; last_map = made; last_routes = found; duo = None }

-- A command was done over a world: it leaves each session of that world with the world then and all else as it was,
-- and this is the text of what it printed, with its figures.
pub record IsDone (c : Command) (before after : WorldState) (told : PrintedState) : Type 0 where
  pub output : List Piece
  pub determined : (made : Option LastMap) → (found : Option LastRoutes)
      → outcome (session_of before made found) c ≡ Some
      (record { output = output; after = session_of after made found })
  pub printed : told ≡ printed_of (fabric_of before) output

-- a command is this call of a client, by its event
abbrev pub IsCall : Command → ClientCall → PortAt → Event → Type 0
IsCall c call at event = kind_of c ≡ calling call at.host at.port event

-- the command that sends a message from a port
abbrev pub sending : PortAt → SendRequest → Command
sending at m = Send at.host at.port m.to.host m.to.port m.prio m.len m.seed

-- a command is of one event of the world at most, and needs nothing else: it takes no walk, it makes no map, no
-- routes, no installation and no settle, it revokes nothing, and is none of the two hosts that restart
abbrev pub IsOneEvent : Command → Type 0
IsOneEvent (Walk host walk) = ⊥
IsOneEvent (Map host depth tries) = ⊥
IsOneEvent (Circuit host depth) = ⊥
IsOneEvent Routes = ⊥
IsOneEvent (Install tries) = ⊥
IsOneEvent Settle = ⊥
IsOneEvent Revoke = ⊥
IsOneEvent (Duo e) = ⊥
IsOneEvent _ = Unit {0}

-- a command opens a port, closes it, or asks where its tokens are
abbrev pub IsPortCommand : Command → Type 0
IsPortCommand (Begin host port sends recvs) = Unit {0}
IsPortCommand (Close host port) = Unit {0}
IsPortCommand (Tokens host port) = Unit {0}
IsPortCommand _ = ⊥

-- a command provides a buffer, sends a message, or takes what came of these
abbrev pub IsMessageCommand : Command → Type 0
IsMessageCommand (Provide host port size prio) = Unit {0}
IsMessageCommand (Send host port dest dport prio len seed) = Unit {0}
IsMessageCommand (Poll host port) = Unit {0}
IsMessageCommand _ = ⊥

-- a command pulls a cable, plugs one, or asks which adopted routes a pull broke
abbrev pub IsCableCommand : Command → Type 0
IsCableCommand (Pull at) = Unit {0}
IsCableCommand (Plug a b) = Unit {0}
IsCableCommand Broken = Unit {0}
IsCableCommand _ = ⊥
