-- What a report says so far: an answer for each command, the latest first, and what follows from these.
use Rattle.std.specs.Prelude.{ℕ, Bool, true, false, List, [], ◌∷◌, ◌++◌, length, nat_eq, if◌then◌else◌}
use Rattle.std.specs.Prelude.{Option, Some, None, option_map}
use Rattle.std.specs.List.{filter, list_any, range_with_len}
use Rattle.net_defs.specs.declared.route.Route.{Route}
use Rattle.net_defs.specs.Network.{Network}
use Rattle.net_defs.specs.declared.vertex.End.{End}
use Rattle.net_defs.specs.declared.fault.GraphFault.{GraphFault}
use Rattle.net_defs.specs.Building.{with_cable, cable_refusal}
use Rattle.port_graph.specs.Removing.{without_cable}
use Rattle.map_defs.specs.declared.rank.RankEntry.{RankEntry}
use Rattle.map_defs.specs.NetMap.{NetMap, hosts_of}
use Rattle.port_ledgers.specs.declared.lane.Lane.{Lane}
use Rattle.port_ledgers.specs.declared.lane.SentMessage.{SentMessage}
use Rattle.port_ledgers.specs.declared.lane.PortName.{PortName}
use Rattle.port_ledgers.specs.Told.{Told, Opened as ToldOpened, Closed as ToldClosed, Provided as ToldProvided}
use Rattle.port_ledgers.specs.Told.{Accepted as ToldAccepted, Returned as ToldReturned, Received as ToldReceived}
use Rattle.run_defs.specs.declared.command.Command.{Command}
use Rattle.run_defs.specs.declared.command.Command.TheVariants.{Begin, Send}
use Rattle.report_lines.specs.declared.line.MapSaid.TheVariants.{Complete}
use Rattle.report_lines.specs.declared.line.ReceivedLine.{ReceivedLine}
use Rattle.report_lines.specs.declared.line.ReportLine.{ReportLine}
use Rattle.report_lines.specs.declared.line.ReportLine.TheVariants.{Map, Opened, Closed, Provided, Accepted, Returned}
use Rattle.report_lines.specs.declared.line.ReportLine.TheVariants.{Received, Pull, Plug}

-- What the lines of one command say: one line alone, a line with the map that its further lines are, routes with their
-- ranks, the hosts of the tables of an installation, or the senders and receivers of broken routes.
pub data Answer : Type 0 where
  Alone : ReportLine → Answer
  WithMap : ReportLine → NetMap → Answer
  WithRoutes : List Route → List RankEntry → Answer
  WithTables : List ℕ → Answer
  WithBroken : List (ℕ × ℕ) → Answer

-- A command with its answer.
pub record Answered : Type 0 where
  pub command : Command
  pub answer : Answer

-- a command with its answer
abbrev pub answered : Command → Answer → Answered
answered c a = record { command = c; answer = a }

-- the last map, where it is complete, by an answer and by those before it: a refused map and circuit links leave it
abbrev pub complete_by : Answer → Option NetMap → Option NetMap
complete_by (WithMap (Map h Complete) m) before = Some m
complete_by (WithMap (Map h said) m) before = None
complete_by (Alone (Map h said)) before = None
complete_by a before = before

-- The last map that was made, where it is complete.
abbrev pub complete_map : List Answered → Option NetMap
complete_map [] = None
complete_map (t ∷ before) = complete_by t.answer (complete_map before)

-- the last map, where it has lines, by an answer and by those before it
abbrev pub shown_by : Answer → Option NetMap → Option NetMap
shown_by (WithMap (Map h said) m) before = Some m
shown_by (Alone (Map h said)) before = None
shown_by a before = before

-- The last map that was made, where it has lines.
abbrev pub shown_map : List Answered → Option NetMap
shown_map [] = None
shown_map (t ∷ before) = shown_by t.answer (shown_map before)

-- what takes a cable, by what refuses it: the fabric that has it, or the one before
abbrev pub where_taken : Option GraphFault → Network → Network → Network
where_taken None now before = now
where_taken (Some fault) now before = before

-- the fabric with a cable between two ports; itself, where one of them has a cable already
abbrev pub plugged : Network → End → End → Network
plugged n a b = where_taken (cable_refusal n a b) (with_cable n a b) n

-- the fabric after an answer: without the cable that was pulled, or with the one that was plugged, where the fabric
-- takes it
abbrev pub fabric_by : Answer → Network → Network
fabric_by (Alone (Pull at true)) n = without_cable n at
fabric_by (Alone (Plug a b true)) n = plugged n a b
fabric_by a n = n

-- The fabric as it stands, by the lines `pull` and `plug` so far that are `done`.
abbrev pub fabric_after : Network → List Answered → Network
fabric_after n [] = n
fabric_after n (t ∷ before) = fabric_by t.answer (fabric_after n before)

-- an answer has tables: its routes were adopted
abbrev pub has_tables : Answer → Bool
has_tables (WithTables hosts) = true
has_tables a = false

-- Routes are adopted.
abbrev pub are_adopted : List Answered → Bool
are_adopted before = list_any (λ t. has_tables t.answer) before

-- an answer has routes
abbrev pub has_routes : Answer → Bool
has_routes (WithRoutes found ranks) = true
has_routes a = false

-- The map of the last routes.
abbrev pub routed_map : List Answered → Option NetMap
routed_map [] = None
routed_map (t ∷ before) = if has_routes t.answer then complete_map before else routed_map before

-- the hosts of a map, by address
abbrev pub hosts_in : Network → NetMap → List ℕ
hosts_in n m = filter (λ h. list_any (nat_eq h) (hosts_of m.vertices)) (range_with_len 0 (length n.hosts))

-- The hosts for which routes are installed: those of the map of the last routes.
abbrev pub routed_hosts : Network → List Answered → Option (List ℕ)
routed_hosts n before = option_map (hosts_in n) (routed_map before)

-- a received message, as its line shows it
abbrev pub received_as : ReceivedLine → Told
received_as l = ToldReceived (record { from = l.from; to = l.port.host; port = l.port.port; prio = l.prio }) l.sport
    l.body l.token

-- how many tokens of each kind a command asks for that opens a port
abbrev pub tokens_of : Command → Option (ℕ × ℕ)
tokens_of (Begin h port sends recvs) = Some (sends, recvs)
tokens_of c = None

-- a port was opened with so many tokens
abbrev pub opened_told : PortName → Option (ℕ × ℕ) → List Told
opened_told a None = []
opened_told a (Some n) = ToldOpened a n.0 n.1 ∷ []

-- the message of a command that sends one from this port, with its lane
abbrev pub message_of : Command → PortName → Option (Lane × SentMessage)
message_of (Send h port dest dport prio len seed) a =
    Some (
      record { from = a.host; to = dest; port = dport; prio = prio },
      record { sport = a.port; len = len; seed = seed },
    )
message_of c a = None

-- a message was accepted with a token
abbrev pub accepted_told : Option (Lane × SentMessage) → ℕ → List Told
accepted_told None token = []
accepted_told (Some m) token = ToldAccepted m.0 m.1 token ∷ []

-- What a line says of a port's tokens and messages, with what its command asked for: nothing, or one thing.
abbrev pub told_by : Command → ReportLine → List Told
told_by c (Opened a) = opened_told a (tokens_of c)
told_by c (Accepted a token) = accepted_told (message_of c a) token
told_by c (Closed a count) = ToldClosed a count ∷ []
told_by c (Provided a token) = ToldProvided a token ∷ []
told_by c (Returned a token) = ToldReturned a token ∷ []
told_by c (Received l) = received_as l ∷ []
told_by c l = []

-- the same of an answer
abbrev pub told_in : Command → Answer → List Told
told_in c (Alone l) = told_by c l
told_in c a = []

-- What a report says of tokens and messages so far, the latest first.
abbrev pub told : List Answered → List Told
told [] = []
told (t ∷ before) = told_in t.command t.answer ++ told before
