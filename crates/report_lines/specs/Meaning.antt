-- Which kinds of lines begin with a word, and what a line of each kind says by its values, as far as it is judged.
use Rattle.std.specs.Prelude.{ℕ, ℤ, Bool, true, false, List, [], ◌∷◌, nat_le, codes, bytes_eq}
use Rattle.std.specs.Prelude.{if◌then◌else◌, Option, Some, None, option_map, option_and_then}
use Rattle.net_defs.specs.declared.walk.WalkFault.{WalkFault}
use Rattle.net_defs.specs.Turn.{walk_refusal}
use Rattle.port_ledgers.specs.declared.lane.PortName.{PortName}
use Rattle.port_ledgers.specs.declared.lane.ToldPlace.{ToldPlace}
use Rattle.run_defs.specs.declared.line.ClientCall.{ClientCall}
use Rattle.run_defs.specs.declared.line.ClientCall.TheVariants.{Begin, Close, Provide, Send, Poll}
use Rattle.run_defs.specs.declared.line.ClientCall.TheVariants.{Tokens as TokensCall}
use Rattle.run_defs.specs.LineRows.{call_word, active_word, place_word}
use Rattle.line_table.specs.declared.kind.LineKind.{LineKind}
use Rattle.line_table.specs.declared.kind.LineKind.TheVariants.{WalkHost, WalkSwitch, WalkNothing, MapComplete}
use Rattle.line_table.specs.declared.kind.LineKind.TheVariants.{MapDoubtful, MapDepth, MapNodes, MapBusy, CircuitDepth}
use Rattle.line_table.specs.declared.kind.LineKind.TheVariants.{CircuitNodes, Routes, NoMap, Route, Rank, EndRoutes}
use Rattle.line_table.specs.declared.kind.LineKind.TheVariants.{Installed, InstallRefused, Table, CallDone, CallCounted}
use Rattle.line_table.specs.declared.kind.LineKind.TheVariants.{CallToken, CallSent, CallReceived, CallNothing}
use Rattle.line_table.specs.declared.kind.LineKind.TheVariants.{CallRefused, CallUnfinished, Tokens, PlanAt, StepDid}
use Rattle.line_table.specs.declared.kind.LineKind.TheVariants.{StepCounted, StepPlaced, StepArrived, StepDropped}
use Rattle.line_table.specs.declared.kind.LineKind.TheVariants.{Settle, Finish, Pulled, PullRefused, Plugged}
use Rattle.line_table.specs.declared.kind.LineKind.TheVariants.{PlugRefused, Revoked, Broken, EndBroken, NoBroken}
use Rattle.line_table.specs.Form.{LineValue, Word, Number, HostAt, TurnBy, VertexAt, Bytes, Entry, EndAt}
use Rattle.line_table.specs.Matching.{is_among}
use Rattle.line_table.specs.Said.{value_said}
use Rattle.report_lines.specs.declared.line.MapSaid.{MapSaid}
use Rattle.report_lines.specs.declared.line.MapSaid.TheVariants.{Complete, Doubtful, Shallow, Overgrown}
use Rattle.report_lines.specs.declared.line.ReportLine.{ReportLine}
use Rattle.report_lines.specs.declared.line.ReportLine.TheVariants.{Walk, Map as MapLine, MapBusy as BusyLine}
use Rattle.report_lines.specs.declared.line.ReportLine.TheVariants.{Circuit as CircuitLine, CircuitNodes as NodesLine}
use Rattle.report_lines.specs.declared.line.ReportLine.TheVariants.{Routes as RoutesLine, NoMap as NoMapLine}
use Rattle.report_lines.specs.declared.line.ReportLine.TheVariants.{Route as RouteLine, Rank as RankLine}
use Rattle.report_lines.specs.declared.line.ReportLine.TheVariants.{EndRoutes as EndRoutesLine}
use Rattle.report_lines.specs.declared.line.ReportLine.TheVariants.{Installed as InstalledLine, Table as TableLine}
use Rattle.report_lines.specs.declared.line.ReportLine.TheVariants.{InstallRefused as InstallRefusedLine, Opened}
use Rattle.report_lines.specs.declared.line.ReportLine.TheVariants.{Closed, Provided, Accepted, Returned, Received}
use Rattle.report_lines.specs.declared.line.ReportLine.TheVariants.{NothingCame, CallRefused as RefusedLine}
use Rattle.report_lines.specs.declared.line.ReportLine.TheVariants.{Tokens as TokensLine, PlanAt as PlanLine, Step}
use Rattle.report_lines.specs.declared.line.ReportLine.TheVariants.{Settle as SettleLine, Finish as FinishLine, Pull}
use Rattle.report_lines.specs.declared.line.ReportLine.TheVariants.{Plug, Revoked as RevokedLine, Broken as BrokenLine}
use Rattle.report_lines.specs.declared.line.ReportLine.TheVariants.{EndBroken as EndBrokenLine}
use Rattle.report_lines.specs.declared.line.ReportLine.TheVariants.{NoBroken as NoBrokenLine}

-- the call that a word names
abbrev pub call_named : List ℕ → Option ClientCall
call_named w =
    if bytes_eq w (call_word Begin) then Some Begin
    else if bytes_eq w (call_word Close) then Some Close
    else if bytes_eq w (call_word Provide) then Some Provide
    else if bytes_eq w (call_word Send) then Some Send
    else if bytes_eq w (call_word Poll) then Some Poll
    else if bytes_eq w (call_word TokensCall) then Some TokensCall
    else None

-- the kinds of lines that answer a call
abbrev pub call_kinds : ClientCall → List LineKind
call_kinds Begin = CallDone ∷ CallRefused ∷ []
call_kinds Close = CallCounted ∷ CallRefused ∷ CallUnfinished ∷ []
call_kinds Provide = CallToken ∷ CallRefused ∷ []
call_kinds Send = CallToken ∷ CallRefused ∷ []
call_kinds Poll = CallReceived ∷ CallSent ∷ CallNothing ∷ CallRefused ∷ []
call_kinds TokensCall = Tokens ∷ CallRefused ∷ []

-- the kinds of lines about cables that begin with a word
abbrev pub cable_kinds : List ℕ → List LineKind
cable_kinds w =
    if bytes_eq w (codes "pull") then Pulled ∷ PullRefused ∷ []
    else if bytes_eq w (codes "plug") then Plugged ∷ PlugRefused ∷ []
    else if bytes_eq w (codes "broken") then NoBroken ∷ Broken ∷ []
    else []

-- and those of which only the form is judged
abbrev pub form_kinds : List ℕ → List LineKind
form_kinds w =
    if bytes_eq w (codes "walk") then WalkHost ∷ WalkSwitch ∷ WalkNothing ∷ []
    else if bytes_eq w (codes "step") then StepDid ∷ StepCounted ∷ StepPlaced ∷ StepArrived ∷ StepDropped ∷ []
    else if bytes_eq w (codes "settle") then Settle ∷ []
    else if bytes_eq w (codes "plan") then PlanAt ∷ []
    else if bytes_eq w (codes "endroutes") then EndRoutes ∷ []
    else if bytes_eq w (codes "install") then InstallRefused ∷ []
    else if bytes_eq w (codes "end") then Finish ∷ []
    else if bytes_eq w (codes "revoked") then Revoked ∷ []
    else if bytes_eq w (codes "endbroken") then EndBroken ∷ []
    else cable_kinds w

-- and those about maps and routes
abbrev pub map_kinds : List ℕ → List LineKind
map_kinds w =
    if bytes_eq w (codes "route") then Route ∷ []
    else if bytes_eq w (codes "rank") then Rank ∷ []
    else if bytes_eq w (codes "table") then Table ∷ []
    else if bytes_eq w (codes "installed") then Installed ∷ []
    else if bytes_eq w (codes "map") then MapComplete ∷ MapDoubtful ∷ MapDepth ∷ MapNodes ∷ MapBusy ∷ []
    else if bytes_eq w (codes "circuit") then CircuitDepth ∷ CircuitNodes ∷ []
    else if bytes_eq w (codes "routes") then Routes ∷ NoMap ∷ []
    else form_kinds w

abbrev pub kinds_by : Option ClientCall → List ℕ → List LineKind
kinds_by (Some call) w = call_kinds call
kinds_by None w = map_kinds w

-- The kinds of lines that may answer a command of the network and begin with a word. A line has the form of one of them
-- at most, but for `broken refused noroutes`, which is the refusal also where two hosts have these names.
abbrev pub kinds_of : List ℕ → List LineKind
kinds_of w = kinds_by (call_named w) w

-- a map of a host, known to be right so far
abbrev pub map_of : MapSaid → ℕ → ReportLine
map_of said h = MapLine h said

-- the turns of values
abbrev pub turns_in : List LineValue → Option (List ℤ)
turns_in [] = Some []
turns_in (TurnBy t ∷ vs) = option_map (λ ts. t ∷ ts) (turns_in vs)
turns_in (v ∷ vs) = None

-- a route, unless its turns are refused as a walk
abbrev pub route_unless : Option WalkFault → ℕ → ℕ → List ℤ → Option ReportLine
route_unless None from to walk = Some (RouteLine (record { from = from; to = to; walk = walk }))
route_unless (Some e) from to walk = None

-- a route, where its turns are a walk
abbrev pub route_meaning : List LineValue → Option ReportLine
route_meaning (HostAt from ∷ HostAt to ∷ vs) =
    option_and_then (λ walk. route_unless (walk_refusal walk) from to walk) (turns_in vs)
route_meaning vs = None

-- so many hosts of so many, where they aren't more
abbrev pub installed_where : Option ℕ → ℕ → Option ReportLine
installed_where None count = None
installed_where (Some acked) count = if nat_le acked count then Some (InstalledLine acked count) else None

-- the causes for which a call may be refused, where nothing is counted
abbrev pub causes_of : ClientCall → List (List ℕ)
causes_of Begin = codes "already" ∷ []
causes_of Provide = codes "notopen" ∷ codes "notoken" ∷ codes "badsize" ∷ []
causes_of Send = codes "notopen" ∷ codes "notoken" ∷ codes "toolong" ∷ codes "noroute" ∷ codes "spent" ∷ []
causes_of call = codes "notopen" ∷ []

-- a message that came at a port
abbrev pub message_of : PortName → ℕ → ℕ → ℕ → ℕ → ℕ → List ℕ → ReportLine
message_of a token from sport prio len body = Received (record {
  port = a;
  token = token;
  from = from;
  sport = sport;
  prio = prio;
  len = len;
  body = body;
})

-- a message that came at a port, by what the line says of it
abbrev pub message_meaning : PortName → List LineValue → Option ReportLine
message_meaning a (Number token ∷ HostAt from ∷ Number sport ∷ Number prio ∷ Number len ∷ Bytes body ∷ vs) =
    Some (message_of a token from sport prio len body)
message_meaning a vs = None

-- a refusal, where the call may be refused for this cause
abbrev pub refused_for : ClientCall → PortName → List ℕ → Option ReportLine
refused_for call a cause = if is_among (causes_of call) cause then Some (RefusedLine call a) else None

-- the number of a token that a call took
abbrev pub token_of : ClientCall → PortName → ℕ → Option ReportLine
token_of Provide a token = Some (Provided a token)
token_of Send a token = Some (Accepted a token)
token_of call a token = None

-- a token with its place: with the client, or in one of the port's lists
abbrev pub place_of : ℕ → List ℕ → ToldPlace
place_of number place = record { number = number; with_client = bytes_eq place (place_word None) }

-- the tokens of values
abbrev pub places_in : List LineValue → Option (List ToldPlace)
places_in [] = Some []
places_in (Entry v place ∷ vs) = option_map (λ es. place_of v place ∷ es) (places_in vs)
places_in (v ∷ vs) = None

-- the send tokens up to the one word `recv`, and the receive tokens after it
abbrev pub both_in : List LineValue → Option (List ToldPlace × List ToldPlace)
both_in [] = None
both_in (Entry v place ∷ vs) = option_map (λ p. (place_of v place ∷ p.0, p.1)) (both_in vs)
both_in (Word w ∷ vs) = option_map (λ es. ([], es)) (places_in vs)
both_in (v ∷ vs) = None

-- the tokens of a port, where both kinds were told
abbrev pub tokens_line : PortName → List ToldPlace × List ToldPlace → ReportLine
tokens_line a p = TokensLine (record { port = a; sends = p.0; recvs = p.1 })

-- What a call says of its port, by the kind of its line and the values after the port.
abbrev pub called : LineKind → ClientCall → PortName → List LineValue → Option ReportLine
called CallDone call a vs = Some (Opened a)
called CallCounted call a (Number count ∷ vs) = Some (Closed a count)
called CallToken call a (Number token ∷ vs) = token_of call a token
called CallSent call a (Number token ∷ vs) = Some (Returned a token)
called CallReceived call a vs = message_meaning a vs
called CallNothing call a vs = Some (NothingCame a)
called CallRefused call a (Word cause ∷ vs) = refused_for call a cause
called CallUnfinished call a vs = Some (RefusedLine call a)
called Tokens call a vs = option_map (tokens_line a) (both_in vs)
called k call a vs = None

-- the same, where the call is known
abbrev pub where_known : LineKind → Option ClientCall → PortName → List LineValue → Option ReportLine
where_known k None a vs = None
where_known k (Some call) a vs = called k call a vs

-- a line that begins with a call, a host and a port
abbrev pub call_meaning : LineKind → List LineValue → Option ReportLine
call_meaning k (Word w ∷ HostAt h ∷ Number p ∷ vs) = where_known k (call_named w) (record { host = h; port = p }) vs
call_meaning k vs = None

-- the same, where the first word is always `tokens`
abbrev pub tokens_meaning : List LineValue → Option ReportLine
tokens_meaning (HostAt h ∷ Number p ∷ vs) = called Tokens TokensCall (record { host = h; port = p }) vs
tokens_meaning vs = None

-- a host that comes first, and then these values of a line
abbrev pub host_meaning : (ℕ → ReportLine) → List LineValue → Option ReportLine
host_meaning line (HostAt h ∷ vs) = Some (line h)
host_meaning line vs = None

abbrev pub circuit_meaning : List LineValue → Option ReportLine
circuit_meaning (HostAt h ∷ Number depth ∷ vs) = Some (CircuitLine h depth)
circuit_meaning vs = None

abbrev pub routes_meaning : List LineValue → Option ReportLine
routes_meaning (Number count ∷ vs) = Some (RoutesLine count)
routes_meaning vs = None

abbrev pub rank_meaning : List LineValue → Option ReportLine
rank_meaning (VertexAt v ∷ TurnBy p ∷ Number rank ∷ vs) = Some (RankLine v p rank)
rank_meaning vs = None

-- its first number is one of form only in its row, and judged here
abbrev pub installed_meaning : List LineValue → Option ReportLine
installed_meaning (Word acked ∷ Number count ∷ vs) = installed_where (value_said acked) count
installed_meaning vs = None

abbrev pub table_meaning : List LineValue → Option ReportLine
table_meaning (HostAt h ∷ Word active ∷ vs) = Some (TableLine h (bytes_eq active (active_word true)))
table_meaning vs = None

abbrev pub pull_meaning : Bool → List LineValue → Option ReportLine
pull_meaning done (EndAt e ∷ vs) = Some (Pull e done)
pull_meaning done vs = None

abbrev pub plug_meaning : Bool → List LineValue → Option ReportLine
plug_meaning done (EndAt a ∷ EndAt b ∷ vs) = Some (Plug a b done)
plug_meaning done vs = None

abbrev pub broken_meaning : List LineValue → Option ReportLine
broken_meaning (HostAt from ∷ HostAt to ∷ vs) = Some (BrokenLine from to)
broken_meaning vs = None

-- lines of which only the form is judged
abbrev pub form_meaning : LineKind → Option ReportLine
form_meaning WalkHost = Some Walk
form_meaning WalkSwitch = Some Walk
form_meaning WalkNothing = Some Walk
form_meaning NoMap = Some NoMapLine
form_meaning EndRoutes = Some EndRoutesLine
form_meaning InstallRefused = Some InstallRefusedLine
form_meaning PlanAt = Some PlanLine
form_meaning StepDid = Some Step
form_meaning StepCounted = Some Step
form_meaning StepPlaced = Some Step
form_meaning StepArrived = Some Step
form_meaning StepDropped = Some Step
form_meaning Settle = Some SettleLine
form_meaning Finish = Some FinishLine
form_meaning Revoked = Some RevokedLine
form_meaning EndBroken = Some EndBrokenLine
form_meaning NoBroken = Some NoBrokenLine
form_meaning k = None

-- lines of which some values are judged
abbrev pub valued_meaning : LineKind → List LineValue → Option ReportLine
valued_meaning MapComplete vs = host_meaning (map_of Complete) vs
valued_meaning MapDoubtful vs = host_meaning (map_of Doubtful) vs
valued_meaning MapDepth vs = host_meaning (map_of Shallow) vs
valued_meaning MapNodes vs = host_meaning (map_of Overgrown) vs
valued_meaning MapBusy vs = host_meaning BusyLine vs
valued_meaning CircuitNodes vs = host_meaning NodesLine vs
valued_meaning CircuitDepth vs = circuit_meaning vs
valued_meaning Routes vs = routes_meaning vs
valued_meaning Rank vs = rank_meaning vs
valued_meaning Installed vs = installed_meaning vs
valued_meaning Table vs = table_meaning vs
valued_meaning Pulled vs = pull_meaning true vs
valued_meaning PullRefused vs = pull_meaning false vs
valued_meaning Plugged vs = plug_meaning true vs
valued_meaning PlugRefused vs = plug_meaning false vs
valued_meaning Broken vs = broken_meaning vs
valued_meaning Route vs = route_meaning vs
valued_meaning Tokens vs = tokens_meaning vs
valued_meaning k vs = call_meaning k vs

-- a line by its form, or else by its values
abbrev pub or_by : Option ReportLine → Option ReportLine → Option ReportLine
or_by None valued = valued
or_by (Some line) valued = Some line

-- What a line of a kind with these values says.
abbrev pub meaning : LineKind → List LineValue → Option ReportLine
meaning k vs = or_by (form_meaning k) (valued_meaning k vs)
