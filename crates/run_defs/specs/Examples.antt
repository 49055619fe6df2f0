-- Sessions over the two hosts at one switch, for worked examples.
use Rattle.std.specs.Prelude.{ℕ, pos, true, List, [], ◌∷◌, ◌++◌, map, Option, Some, None, flat_map}
use Rattle.net_defs.specs.Examples.{two_hosts, host_end, switch_end}
use Rattle.journal_defs.specs.Examples.{two_hosts_journal}
use Rattle.map_defs.specs.declared.vertex.MapVertex.TheVariants.{Host, Switch}
use Rattle.map_defs.specs.NetMap.{NetMap}
use Rattle.duo_defs.specs.declared.event.DuoEvent.{DuoEvent}
use Rattle.world_defs.specs.declared.effect.Said.{Said}
use Rattle.world_defs.specs.declared.fault.Fault.TheVariants.{Lose as LoseFault}
use Rattle.world_defs.specs.World.{WorldState, fabric_of, new_world, planned}
use Rattle.world_defs.specs.Examples.{setup, setup_routes}
use Rattle.world_defs.specs.Logs as log
use Rattle.run_defs.specs.declared.command.Command.{Command}
use Rattle.run_defs.specs.declared.command.Command.TheVariants.{Map, Routes, Install, Begin, Close, Poll, Tokens}
use Rattle.run_defs.specs.declared.command.Command.TheVariants.{Provide, Send, Plan, Step, Settle, Finish, Duo}
use Rattle.run_defs.specs.declared.command.Command.TheVariants.{Pull, Plug, Revoke, Broken}
use Rattle.run_defs.specs.declared.command.PlanKind.TheVariants.{Pull as PlanPull}
use Rattle.run_defs.specs.declared.command.StepLine.TheVariants.{Inject, Advance, Lose}
use Rattle.run_defs.specs.declared.line.MapWords.TheVariants.{Complete}
use Rattle.run_defs.specs.declared.line.ClientCall.{ClientCall}
use Rattle.run_defs.specs.declared.line.Line.TheVariants.{Map as MapLine, Routes as RoutesLine, EndRoutes, Installed}
use Rattle.run_defs.specs.declared.line.Line.TheVariants.{Client, Settle as SettleLine, Finish as FinishLine}
use Rattle.run_defs.specs.Output.{Piece, OneLine, MapLines}
use Rattle.run_defs.specs.LineText.{output_text}
use Rattle.run_defs.specs.Session.{SessionState, new_session}
use Rattle.run_defs.specs.Outcome.{Outcome, outcome}

-- a text of these lines
abbrev pub text_of : List (List ℕ) → List ℕ
text_of ls = flat_map (λ l. l ++ 10 ∷ []) ls

-- a determined command's text, and then the text of what follows in the session after it; nothing where it isn't
-- determined
abbrev pub text_then : Option Outcome → (SessionState → List ℕ) → List ℕ
text_then None rest = []
text_then (Some o) rest = output_text (fabric_of o.after.world) o.output ++ rest o.after

-- what determined commands print
abbrev pub printed : List Command → SessionState → List ℕ
printed [] s = []
printed (c ∷ cs) s = text_then (outcome s c) (printed cs)

-- the session of the two hosts at one switch before any command
abbrev pub fresh : SessionState
fresh = new_session two_hosts

-- the session of the two hosts, with their routes installed
abbrev pub installed_session : SessionState
installed_session = record {
  world = setup;
  last_map = None;
  last_routes = Some (record { mapper = 0; hosts = 0 ∷ 1 ∷ []; routes = setup_routes; began = 0 });
  duo = None;
}

-- the map of the two hosts: the switch's ports count from the first host's
abbrev pub setup_map : NetMap
setup_map = record {
  vertices = Host 0 ∷ Switch 0 ∷ Host 1 ∷ [];
  cables = record { v = 0; p = pos 0; w = 1; q = pos 0 } ∷ record { v = 1; p = pos 3; w = 2; q = pos 0 } ∷ [];
  core = true ∷ true ∷ true ∷ [];
}

-- calls without routes, each refused once
abbrev pub refused_calls : List Command
refused_calls =
    Begin 0 0 1 1 ∷ Begin 0 0 1 1 ∷ Provide 0 0 3 0 ∷ Provide 0 0 4 0 ∷ Provide 0 0 4 0 ∷ Send 0 0 1 1 0 1 1
    ∷ Send 0 1 1 1 0 1 1
    ∷ Poll 0 1 ∷ Poll 0 0 ∷ Routes ∷ Install 1 ∷ Finish ∷ []

-- a port is closed once nothing of it is unfinished and nothing waits
abbrev pub closing : List Command
closing =
    Begin 0 0 1 2 ∷ Provide 0 0 4 0 ∷ Provide 0 0 5 1 ∷ Begin 1 1 0 1 ∷ Provide 1 1 4 0 ∷ Send 0 0 1 1 0 1 9
    ∷ Close 0 0 ∷ Settle ∷ Close 0 0
    ∷ Poll 0 0 ∷ Tokens 0 0 ∷ Close 0 0 ∷ Tokens 0 0 ∷ Finish ∷ []

-- events one by one
abbrev pub single_events : List Command
single_events =
    Begin 0 0 2 0 ∷ Begin 1 1 0 2 ∷ Provide 1 1 4 0 ∷ Provide 1 1 4 0 ∷ Send 0 0 1 1 0 1 1 ∷ Send 0 0 1 1 0 1 2
    ∷ Step (Inject 0) ∷ Step (Advance (host_end 0)) ∷ Step (Inject 0) ∷ Step (Inject 0) ∷ Step (Advance (host_end 0))
    ∷ Map 0 4 1
    ∷ Step (Advance (switch_end 0 5)) ∷ Step (Advance (host_end 0)) ∷ Step (Lose (switch_end 0 5))
    ∷ Step (Lose (switch_end 0 7)) ∷ Settle
    ∷ Poll 1 1 ∷ Poll 1 1 ∷ Finish ∷ []

-- the second of two hosts restarts before a frame comes, and the first hears of it
abbrev pub restarting : List Command
restarting = map Duo
    (DuoEvent.Provide 1 4 ∷ DuoEvent.Send 0 1 65 ∷ DuoEvent.Emit 0 ∷ DuoEvent.Deliver 0 ∷ DuoEvent.Emit 1
    ∷ DuoEvent.Deliver 1 ∷ DuoEvent.Emit 0 ∷ DuoEvent.Restart 1 ∷ DuoEvent.Deliver 2 ∷ DuoEvent.Emit 1
    ∷ DuoEvent.Deliver 3 ∷ DuoEvent.Poll 0 ∷ [])

-- a cable is pulled under a message, and another is plugged in its place
abbrev pub pulling : List Command
pulling =
    Begin 0 0 1 0 ∷ Begin 1 1 0 1 ∷ Provide 1 1 4 0 ∷ Send 0 0 1 1 0 1 7 ∷ Pull (switch_end 0 5) ∷ Pull (host_end 1)
    ∷ Settle ∷ Broken ∷ Plug (host_end 0) (switch_end 0 5) ∷ Plug (host_end 1) (switch_end 0 5) ∷ Settle
    ∷ Install 1 ∷ Revoke ∷ Finish ∷ []

-- cables of a fabric that has no routes
abbrev pub cables_without_routes : List Command
cables_without_routes =
    Broken ∷ Revoke ∷ Plug (switch_end 0 3) (switch_end 0 3) ∷ Plug (switch_end 0 3) (switch_end 0 4)
    ∷ Plan 1 (PlanPull (switch_end 0 3)) ∷ Finish ∷ []

-- the world after the asks of a map, from the first host on
abbrev pub mapped_world : WorldState
mapped_world = (log.asks 0 0 1 (map (λ e. e.walk) two_hosts_journal) (new_world two_hosts)).world

-- a script of one map
abbrev pub mapping : List Command
mapping = Map 0 4 1 ∷ Finish ∷ []

-- what it prints: 31 asks, 62 packets of which 59 are dropped
abbrev pub mapping_output : List Piece
mapping_output = OneLine (MapLine 0 Complete 31 62) ∷ MapLines setup_map ∷ OneLine (FinishLine 62 59) ∷ []

-- the session after it
abbrev pub mapped_session : SessionState
mapped_session = record {
  world = mapped_world;
  last_map = Some (record { mapper = 0; words = Complete; made = setup_map; began = 0 });
  last_routes = None;
  duo = None;
}

-- the first world, with a fault planned for the first injection
abbrev pub doubtful_world : WorldState
doubtful_world = (planned (new_world two_hosts) 1 LoseFault).1

-- what a run with one message prints, cut short
abbrev pub message_output : List Piece
message_output =
    OneLine (MapLine 0 Complete 31 62) ∷ MapLines setup_map ∷ OneLine (RoutesLine 2) ∷ OneLine EndRoutes
    ∷ OneLine (Installed 2 2)
    ∷ OneLine (Client ClientCall.Provide 1 1 (Said.Token 0)) ∷ OneLine (Client ClientCall.Send 0 0 (Said.Token 0))
    ∷ OneLine (SettleLine 1 0 0)
    ∷ OneLine (Client ClientCall.Poll 1 1 (Said.Received 0 0 0 0 (9 ∷ [])))
    ∷ OneLine (Client ClientCall.Poll 1 1 Said.Nothing) ∷ OneLine (FinishLine 66 59) ∷ []
