-- The row of each line in the table of lines, and its values.
use Rattle.std.specs.Prelude.{ℕ, Bool, true, false, List, [], ◌∷◌, ◌++◌, map, length, Option, Some}
use Rattle.std.specs.Prelude.{None, codes, decimal}
use Rattle.net_defs.specs.declared.vertex.Vertex.TheVariants.{Switch}
use Rattle.net_defs.specs.declared.place.Place.TheVariants.{Host as AtHost, Switch as AtSwitch, Nothing as Stuck}
use Rattle.gm_defs.specs.declared.token.TokenPlace.{TokenPlace}
use Rattle.gm_defs.specs.declared.token.TokenPlace.TheVariants.{Queue, Provided, Event}
use Rattle.duo_defs.specs.declared.effect.DuoCause.{DuoCause}
use Rattle.duo_defs.specs.declared.effect.DuoCause.TheVariants.{NoToken as DuoNoToken, TooLong as DuoTooLong}
use Rattle.duo_defs.specs.declared.effect.DuoCause.TheVariants.{Spent as DuoSpent, BadSize as DuoBadSize}
use Rattle.duo_defs.specs.declared.effect.DuoEffect.{DuoEffect}
use Rattle.duo_defs.specs.declared.effect.DuoEffect.TheVariants.{Token as DuoToken, Refused as DuoRefused}
use Rattle.duo_defs.specs.declared.effect.DuoEffect.TheVariants.{Idle as DuoIdle, Emitted as DuoEmitted}
use Rattle.duo_defs.specs.declared.effect.DuoEffect.TheVariants.{Hello as DuoHello, Stale as DuoStale}
use Rattle.duo_defs.specs.declared.effect.DuoEffect.TheVariants.{Message as DuoMessage, NotNext as DuoNotNext}
use Rattle.duo_defs.specs.declared.effect.DuoEffect.TheVariants.{NoToken as NoneFits, Ack as DuoAck}
use Rattle.duo_defs.specs.declared.effect.DuoEffect.TheVariants.{Expired as DuoExpired, Nothing as DuoNothing}
use Rattle.duo_defs.specs.declared.effect.DuoEffect.TheVariants.{Sent as DuoSent, Unsure as DuoUnsure}
use Rattle.duo_defs.specs.declared.effect.DuoEffect.TheVariants.{Received as DuoReceived, Restarted as DuoRestarted}
use Rattle.fab_text.specs.Fault.{kind_word}
use Rattle.world_defs.specs.declared.effect.Cause.{Cause}
use Rattle.world_defs.specs.declared.effect.Cause.TheVariants.{OutOfRange, NotRoute, NoCable, NewCable, BadCrc}
use Rattle.world_defs.specs.declared.effect.Cause.TheVariants.{RouteLeft, UnknownType, Malformed, NotMine}
use Rattle.world_defs.specs.declared.effect.Said.{Said}
use Rattle.world_defs.specs.declared.effect.Said.TheVariants.{Done, Count, Token, Sent, Received, Nothing}
use Rattle.world_defs.specs.declared.effect.Said.TheVariants.{Refused as SaidRefused}
use Rattle.world_defs.specs.declared.client.ClientCause.{ClientCause}
use Rattle.world_defs.specs.declared.client.ClientCause.TheVariants.{Already, NotOpen, NoToken, TooLong, NoRoute, Spent}
use Rattle.world_defs.specs.declared.client.ClientCause.TheVariants.{BadSize, Busy, Unread, Filling}
use Rattle.world_defs.specs.declared.heard.Heard.{Heard}
use Rattle.world_defs.specs.declared.heard.Heard.TheVariants.{Probe, Reply, Loop, Routes as HeardRoutes, RoutesAck}
use Rattle.world_defs.specs.declared.heard.Heard.TheVariants.{Message, Fragment, NotNext, NoToken as NoTokenFits, Ack}
use Rattle.run_defs.specs.declared.line.MapWords.{MapWords}
use Rattle.run_defs.specs.declared.line.MapWords.TheVariants.{Complete, Doubtful, IncompleteDepth, IncompleteNodes}
use Rattle.run_defs.specs.declared.line.InstallCause.{InstallCause}
use Rattle.run_defs.specs.declared.line.InstallCause.TheVariants.{NoRoutes, Busy as LinksBusy, Changed}
use Rattle.run_defs.specs.declared.line.InstallCause.TheVariants.{Installed as OtherInstalled, Epochs}
use Rattle.run_defs.specs.declared.line.PlugWords.{PlugWords}
use Rattle.run_defs.specs.declared.line.PlugWords.TheVariants.{Done as Joined, PortUsed, Full}
use Rattle.run_defs.specs.declared.line.ClientCall.{ClientCall}
use Rattle.run_defs.specs.declared.line.ClientCall.TheVariants.{Begin, Close, Provide, Send, Poll, Tokens as TokensCall}
use Rattle.run_defs.specs.declared.line.StepWords.{StepWords}
use Rattle.run_defs.specs.declared.line.StepWords.TheVariants.{Idle, Injected, Moved, Blocked, Arrived, Dropped, Lost}
use Rattle.run_defs.specs.declared.line.StepWords.TheVariants.{Reset, Flipped, Expired, GaveUp, Repeated, Held}
use Rattle.run_defs.specs.declared.line.StepWords.TheVariants.{Replayed}
use Rattle.run_defs.specs.declared.line.PlaceEntry.{PlaceEntry}
use Rattle.run_defs.specs.declared.line.Line.{Line}
use Rattle.run_defs.specs.declared.line.Line.TheVariants.{Refused, Walk, Map, MapBusy, Circuit, CircuitNodes, Routes}
use Rattle.run_defs.specs.declared.line.Line.TheVariants.{Route, Rank, EndRoutes}
use Rattle.run_defs.specs.declared.line.Line.TheVariants.{NoMap, Installed, Table, InstallRefused, Client, Tokens}
use Rattle.run_defs.specs.declared.line.Line.TheVariants.{PlanAt, Step, Settle, Finish, GenHead, GenMap, GenCount, Duo}
use Rattle.run_defs.specs.declared.line.Line.TheVariants.{Pull, Plug, Revoked, Broken, EndBroken, NoBroken}
use Rattle.line_table.specs.declared.kind.LineKind.{LineKind}
use Rattle.line_table.specs.declared.kind.LineKind.TheVariants.{Refused as RefusedRow, WalkHost, WalkSwitch}
use Rattle.line_table.specs.declared.kind.LineKind.TheVariants.{WalkNothing, MapComplete, MapDoubtful, MapDepth}
use Rattle.line_table.specs.declared.kind.LineKind.TheVariants.{MapNodes, MapBusy as MapBusyRow, CircuitDepth}
use Rattle.line_table.specs.declared.kind.LineKind.TheVariants.{CircuitNodes as CircuitNodesRow, Routes as RoutesRow}
use Rattle.line_table.specs.declared.kind.LineKind.TheVariants.{NoMap as NoMapRow, Route as RouteRow, Rank as RankRow}
use Rattle.line_table.specs.declared.kind.LineKind.TheVariants.{EndRoutes as EndRoutesRow, Installed as InstalledRow}
use Rattle.line_table.specs.declared.kind.LineKind.TheVariants.{InstallRefused as InstallRefusedRow}
use Rattle.line_table.specs.declared.kind.LineKind.TheVariants.{Table as TableRow, CallDone, CallCounted, CallToken}
use Rattle.line_table.specs.declared.kind.LineKind.TheVariants.{CallSent, CallReceived, CallNothing, CallRefused}
use Rattle.line_table.specs.declared.kind.LineKind.TheVariants.{CallUnfinished, Tokens as TokensRow}
use Rattle.line_table.specs.declared.kind.LineKind.TheVariants.{PlanAt as PlanAtRow, StepDid, StepCounted, StepPlaced}
use Rattle.line_table.specs.declared.kind.LineKind.TheVariants.{StepArrived, StepDropped, Settle as SettleRow}
use Rattle.line_table.specs.declared.kind.LineKind.TheVariants.{Finish as FinishRow, Pulled, PullRefused, Plugged}
use Rattle.line_table.specs.declared.kind.LineKind.TheVariants.{PlugRefused, Revoked as RevokedRow}
use Rattle.line_table.specs.declared.kind.LineKind.TheVariants.{Broken as BrokenRow, EndBroken as EndBrokenRow}
use Rattle.line_table.specs.declared.kind.LineKind.TheVariants.{NoBroken as NoBrokenRow, GenHead as GenHeadRow}
use Rattle.line_table.specs.declared.kind.LineKind.TheVariants.{GenComplete, GenDoubtful, GenDepth, GenNodes}
use Rattle.line_table.specs.declared.kind.LineKind.TheVariants.{GenCount as GenCountRow, DuoDid, DuoCounted}
use Rattle.line_table.specs.declared.kind.LineKind.TheVariants.{DuoRefused as DuoRefusedRow}
use Rattle.line_table.specs.declared.kind.LineKind.TheVariants.{DuoReceived as DuoReceivedRow}
use Rattle.line_table.specs.Texts.{entry_text}
use Rattle.line_table.specs.Form.{LineValue, Word, Number, HostAt, TurnBy, VertexAt, Bytes, Entry, EndAt}

-- why an installation was refused
abbrev pub install_cause : InstallCause → List ℕ
install_cause NoRoutes = codes "noroutes"
install_cause LinksBusy = codes "busy"
install_cause Changed = codes "changed"
install_cause OtherInstalled = codes "installed"
install_cause Epochs = codes "epochs"

-- the word of a client's call
abbrev pub call_word : ClientCall → List ℕ
call_word Begin = codes "open"
call_word Close = codes "close"
call_word Provide = codes "provide"
call_word Send = codes "send"
call_word Poll = codes "poll"
call_word TokensCall = codes "tokens"

-- why a client's call was refused; `busy` with the unfinished sends, `unread` with the waiting events, `filling` with
-- the provided tokens that hold the beginning of a message
abbrev pub client_cause : ClientCause → List ℕ
client_cause Already = codes "already"
client_cause NotOpen = codes "notopen"
client_cause NoToken = codes "notoken"
client_cause TooLong = codes "toolong"
client_cause NoRoute = codes "noroute"
client_cause Spent = codes "spent"
client_cause BadSize = codes "badsize"
client_cause (Busy n) = codes "busy"
client_cause (Unread n) = codes "unread"
client_cause (Filling n) = codes "filling"

-- what a host heard
abbrev pub heard_word : Heard → List ℕ
heard_word Probe = codes "probe"
heard_word (Reply number host) = codes "reply"
heard_word (Loop number) = codes "loop"
heard_word HeardRoutes = codes "routes"
heard_word (RoutesAck epoch host part) = codes "routesack"
heard_word Message = codes "message"
heard_word Fragment = codes "fragment"
heard_word NotNext = codes "notnext"
heard_word NoTokenFits = codes "notoken"
heard_word Ack = codes "ack"

-- why a packet was dropped
abbrev pub cause_word : Cause → List ℕ
cause_word OutOfRange = codes "outofrange"
cause_word NotRoute = codes "notroute"
cause_word NoCable = codes "nocable"
cause_word NewCable = codes "newcable"
cause_word BadCrc = codes "badcrc"
cause_word RouteLeft = codes "routeleft"
cause_word UnknownType = codes "unknowntype"
cause_word Malformed = codes "malformed"
cause_word NotMine = codes "notmine"

-- where a token stands: with the client where the port doesn't hold it
abbrev pub place_word : Option TokenPlace → List ℕ
place_word None = codes "client"
place_word (Some Queue) = codes "queue"
place_word (Some Provided) = codes "provided"
place_word (Some Event) = codes "event"

-- a token's number and place: `NUMBER=PLACE`
abbrev pub place_text : PlaceEntry → List ℕ
place_text p = entry_text p.number (place_word p.place)

-- whether a host's table is active
abbrev pub active_word : Bool → List ℕ
active_word true = codes "active"
active_word false = codes "none"

-- why a call of a client, or a restart, was refused
abbrev pub duo_cause : DuoCause → List ℕ
duo_cause DuoNoToken = codes "notoken"
duo_cause DuoTooLong = codes "toolong"
duo_cause DuoSpent = codes "spent"
duo_cause DuoBadSize = codes "badsize"

-- the row of a map's line, by how far it is known to be right
abbrev pub map_kind : MapWords → LineKind
map_kind Complete = MapComplete
map_kind (Doubtful n) = MapDoubtful
map_kind IncompleteDepth = MapDepth
map_kind IncompleteNodes = MapNodes

-- the same of a generated run
abbrev pub gen_kind : MapWords → LineKind
gen_kind Complete = GenComplete
gen_kind (Doubtful n) = GenDoubtful
gen_kind IncompleteDepth = GenDepth
gen_kind IncompleteNodes = GenNodes

-- the row of a refusal, by whether it counts something unfinished
abbrev pub cause_kind : ClientCause → LineKind
cause_kind (Busy n) = CallUnfinished
cause_kind (Unread n) = CallUnfinished
cause_kind (Filling n) = CallUnfinished
cause_kind _ = CallRefused

-- the row of what a client's call said
abbrev pub said_kind : Said → LineKind
said_kind Done = CallDone
said_kind (Count c) = CallCounted
said_kind (Token t) = CallToken
said_kind (Sent t) = CallSent
said_kind (Received t from sport prio body) = CallReceived
said_kind Nothing = CallNothing
said_kind (SaidRefused cause) = cause_kind cause

-- the row of what one event did
abbrev pub step_kind : StepWords → LineKind
step_kind (Injected k) = StepCounted
step_kind (Moved e) = StepPlaced
step_kind (Blocked e) = StepPlaced
step_kind (Arrived h heard) = StepArrived
step_kind (Dropped cause) = StepDropped
step_kind (Repeated serial) = StepCounted
step_kind (Held serial) = StepCounted
step_kind (Replayed e) = StepPlaced
step_kind _ = StepDid

-- the row of what one event of the two hosts that restart did
abbrev pub duo_kind : DuoEffect → LineKind
duo_kind (DuoToken t) = DuoCounted
duo_kind (DuoRefused cause) = DuoRefusedRow
duo_kind (DuoEmitted k) = DuoCounted
duo_kind (DuoSent t) = DuoCounted
duo_kind (DuoUnsure t) = DuoCounted
duo_kind (DuoReceived t body) = DuoReceivedRow
duo_kind (DuoRestarted inc) = DuoCounted
duo_kind _ = DuoDid

-- The row of a line.
abbrev pub line_kind : Line → LineKind
line_kind (Refused line kind) = RefusedRow
line_kind (Walk (AtHost h)) = WalkHost
line_kind (Walk (AtSwitch s p)) = WalkSwitch
line_kind (Walk Stuck) = WalkNothing
line_kind (Map host words asks packets) = map_kind words
line_kind (MapBusy host) = MapBusyRow
line_kind (Circuit host depth asks) = CircuitDepth
line_kind (CircuitNodes host asks) = CircuitNodesRow
line_kind (Routes count) = RoutesRow
line_kind (Route from to walk) = RouteRow
line_kind (Rank v p rank) = RankRow
line_kind EndRoutes = EndRoutesRow
line_kind NoMap = NoMapRow
line_kind (Installed acked of) = InstalledRow
line_kind (Table host active) = TableRow
line_kind (InstallRefused cause) = InstallRefusedRow
line_kind (Client call host port said) = said_kind said
line_kind (Tokens host port sends recvs) = TokensRow
line_kind (PlanAt number) = PlanAtRow
line_kind (Step words) = step_kind words
line_kind (Settle rounds resets unacked) = SettleRow
line_kind (Finish injected dropped) = FinishRow
line_kind (GenHead count seed hosts switches cables) = GenHeadRow
line_kind (GenMap words asks packets) = gen_kind words
line_kind (GenCount accepted received) = GenCountRow
line_kind (Duo did) = duo_kind did
line_kind (Pull at true) = Pulled
line_kind (Pull at false) = PullRefused
line_kind (Plug a b Joined) = Plugged
line_kind (Plug a b _) = PlugRefused
line_kind (Revoked count) = RevokedRow
line_kind (Broken from to) = BrokenRow
line_kind EndBroken = EndBrokenRow
line_kind NoBroken = NoBrokenRow

-- a number of which only the form is judged
abbrev pub count_of : ℕ → LineValue
count_of v = Word (decimal v)

-- how many asks drowned, where a map is doubtful
abbrev pub doubts_of : MapWords → List LineValue
doubts_of (Doubtful n) = count_of n ∷ []
doubts_of _ = []

-- how much is unfinished, where a refusal counts it
abbrev pub unfinished_of : ClientCause → List LineValue
unfinished_of (Busy n) = count_of n ∷ []
unfinished_of (Unread n) = count_of n ∷ []
unfinished_of (Filling n) = count_of n ∷ []
unfinished_of _ = []

-- what a client's call said: that it was done, the token that it gave up, the event that it took, or its refusal
abbrev pub said_values : Said → List LineValue
said_values Done = []
said_values (Count c) = Number c ∷ []
said_values (Token t) = Number t ∷ []
said_values (Sent t) = Number t ∷ []
said_values (Received t from sport prio body) =
    Number t ∷ HostAt from ∷ Number sport ∷ Number prio ∷ Number (length body) ∷ Bytes body ∷ []
said_values Nothing = []
said_values (SaidRefused cause) = Word (client_cause cause) ∷ unfinished_of cause

-- what one event did; a channel is named by the end that it leaves
abbrev pub step_values : StepWords → List LineValue
step_values Idle = Word (codes "idle") ∷ []
step_values (Injected k) = Word (codes "injected") ∷ count_of k ∷ []
step_values (Moved e) = Word (codes "moved") ∷ EndAt e ∷ []
step_values (Blocked e) = Word (codes "blocked") ∷ EndAt e ∷ []
step_values (Arrived h heard) = HostAt h ∷ Word (heard_word heard) ∷ []
step_values (Dropped cause) = Word (cause_word cause) ∷ []
step_values Lost = Word (codes "lost") ∷ []
step_values Reset = Word (codes "reset") ∷ []
step_values Flipped = Word (codes "flipped") ∷ []
step_values Expired = Word (codes "expired") ∷ []
step_values GaveUp = Word (codes "gaveup") ∷ []
step_values (Repeated serial) = Word (codes "repeated") ∷ count_of serial ∷ []
step_values (Held serial) = Word (codes "held") ∷ count_of serial ∷ []
step_values (Replayed e) = Word (codes "replayed") ∷ EndAt e ∷ []

-- what one event of the two hosts that restart did
abbrev pub duo_values : DuoEffect → List LineValue
duo_values (DuoToken t) = Word (codes "token") ∷ count_of t ∷ []
duo_values (DuoRefused cause) = Word (duo_cause cause) ∷ []
duo_values DuoIdle = Word (codes "idle") ∷ []
duo_values (DuoEmitted k) = Word (codes "emitted") ∷ count_of k ∷ []
duo_values DuoHello = Word (codes "hello") ∷ []
duo_values DuoStale = Word (codes "stale") ∷ []
duo_values DuoMessage = Word (codes "message") ∷ []
duo_values DuoNotNext = Word (codes "notnext") ∷ []
duo_values NoneFits = Word (codes "notoken") ∷ []
duo_values DuoAck = Word (codes "ack") ∷ []
duo_values DuoExpired = Word (codes "expired") ∷ []
duo_values DuoNothing = Word (codes "nothing") ∷ []
duo_values (DuoSent t) = Word (codes "sent") ∷ count_of t ∷ []
duo_values (DuoUnsure t) = Word (codes "unsure") ∷ count_of t ∷ []
duo_values (DuoReceived t body) = count_of t ∷ Bytes body ∷ []
duo_values (DuoRestarted inc) = Word (codes "restarted") ∷ count_of inc ∷ []

-- why two ports weren't joined
abbrev pub plug_values : PlugWords → List LineValue
plug_values Joined = []
plug_values PortUsed = Word (codes "portused") ∷ []
plug_values Full = Word (codes "full") ∷ []

-- a token with its place
abbrev pub place_value : PlaceEntry → LineValue
place_value p = Entry p.number (place_word p.place)

-- The values of a line, in the order of its row.
abbrev pub line_values : Line → List LineValue
line_values (Refused line kind) = count_of line ∷ Word (kind_word kind) ∷ []
line_values (Walk (AtHost h)) = HostAt h ∷ []
line_values (Walk (AtSwitch s p)) = EndAt (record { v = Switch s; p = p }) ∷ []
line_values (Walk Stuck) = []
line_values (Map host words asks packets) = HostAt host ∷ doubts_of words ++ count_of asks ∷ count_of packets ∷ []
line_values (MapBusy host) = HostAt host ∷ []
line_values (Circuit host depth asks) = HostAt host ∷ Number depth ∷ count_of asks ∷ []
line_values (CircuitNodes host asks) = HostAt host ∷ count_of asks ∷ []
line_values (Routes count) = Number count ∷ []
line_values (Route from to walk) = HostAt from ∷ HostAt to ∷ map TurnBy walk
line_values (Rank v p rank) = VertexAt v ∷ TurnBy p ∷ Number rank ∷ []
line_values (Installed acked of) = count_of acked ∷ Number of ∷ []
line_values (Table host active) = HostAt host ∷ Word (active_word active) ∷ []
line_values (InstallRefused cause) = Word (install_cause cause) ∷ []
line_values (Client call host port said) = Word (call_word call) ∷ HostAt host ∷ Number port ∷ said_values said
line_values (Tokens host port sends recvs) =
    HostAt host ∷ Number port ∷ map place_value sends ++ Word (codes "recv") ∷ map place_value recvs
line_values (PlanAt number) = count_of number ∷ []
line_values (Step words) = step_values words
line_values (Settle rounds resets unacked) = count_of rounds ∷ count_of resets ∷ count_of unacked ∷ []
line_values (Finish injected dropped) = count_of injected ∷ count_of dropped ∷ []
line_values (GenHead count seed hosts switches cables) =
    count_of count ∷ count_of seed ∷ count_of hosts ∷ count_of switches ∷ count_of cables ∷ []
line_values (GenMap words asks packets) = doubts_of words ++ count_of asks ∷ count_of packets ∷ []
line_values (GenCount accepted received) = count_of accepted ∷ count_of received ∷ []
line_values (Duo did) = duo_values did
line_values (Pull at done) = EndAt at ∷ []
line_values (Plug a b words) = EndAt a ∷ EndAt b ∷ plug_values words
line_values (Revoked count) = count_of count ∷ []
line_values (Broken from to) = HostAt from ∷ HostAt to ∷ []
line_values _ = []
