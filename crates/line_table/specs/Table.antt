-- The tables of lines: the form of each kind.
use Rattle.std.specs.Prelude.{◌-◌, ◌^◌, List, [], ◌∷◌, codes}
use Rattle.line_table.specs.declared.kind.LineKind.{LineKind}
use Rattle.line_table.specs.declared.kind.LineKind.TheVariants.{Refused, WalkHost, WalkSwitch, WalkNothing}
use Rattle.line_table.specs.declared.kind.LineKind.TheVariants.{MapComplete, MapDoubtful, MapDepth, MapNodes, MapBusy}
use Rattle.line_table.specs.declared.kind.LineKind.TheVariants.{CircuitDepth, CircuitNodes, Routes, NoMap, Route}
use Rattle.line_table.specs.declared.kind.LineKind.TheVariants.{Rank, EndRoutes, Installed, InstallRefused, Table}
use Rattle.line_table.specs.declared.kind.LineKind.TheVariants.{CallDone, CallCounted, CallToken, CallSent}
use Rattle.line_table.specs.declared.kind.LineKind.TheVariants.{CallReceived, CallNothing, CallRefused}
use Rattle.line_table.specs.declared.kind.LineKind.TheVariants.{CallUnfinished, Tokens, PlanAt, StepDid, StepCounted}
use Rattle.line_table.specs.declared.kind.LineKind.TheVariants.{StepPlaced, StepArrived, StepDropped, Settle, Finish}
use Rattle.line_table.specs.declared.kind.LineKind.TheVariants.{Pulled, PullRefused, Plugged, PlugRefused, Revoked}
use Rattle.line_table.specs.declared.kind.LineKind.TheVariants.{Broken, EndBroken, NoBroken, GenHead, GenComplete}
use Rattle.line_table.specs.declared.kind.LineKind.TheVariants.{GenDoubtful, GenDepth, GenNodes, GenCount, DuoDid}
use Rattle.line_table.specs.declared.kind.LineKind.TheVariants.{DuoCounted, DuoRefused, DuoReceived}
use Rattle.line_table.specs.declared.kind.MapLineKind.{MapLineKind}
use Rattle.line_table.specs.declared.kind.MapLineKind.TheVariants.{Host, Switch, Cable, End}
use Rattle.line_table.specs.Form.{WordKind, Digits, NumberTo, HostName, Turn, MapPlace, Hex, OneOf, EntryOr}
use Rattle.line_table.specs.Form.{Slot, Fixed, Of, AnEnd, AnEndBy, Rest}

-- a number of 64 bits
abbrev pub value : WordKind
value = NumberTo (2 ^ 64 - 1)

-- the word of a client's call
abbrev pub call : WordKind
call = OneOf (codes "open" ∷ codes "close" ∷ codes "provide" ∷ codes "send" ∷ codes "poll" ∷ codes "tokens" ∷ [])

-- a token with its place, or `recv` before the tokens to receive with
abbrev pub place : WordKind
place = EntryOr (codes "recv") (codes "client" ∷ codes "queue" ∷ codes "provided" ∷ codes "event" ∷ [])

-- The form of each kind of line.
abbrev pub form_of : LineKind → List Slot
form_of Refused =
    Fixed (codes "refused") ∷ Of Digits ∷ Of (OneOf (codes "badword" ∷ codes "notnumber" ∷ codes "toolarge"
    ∷ codes "nametaken" ∷ codes "novertex" ∷ codes "portrange" ∷ codes "portused" ∷ codes "full" ∷ codes "noend"
    ∷ codes "afterend" ∷ [])) ∷ []
form_of WalkHost = Fixed (codes "walk") ∷ Fixed (codes "host") ∷ Of HostName ∷ []
form_of WalkSwitch = Fixed (codes "walk") ∷ Fixed (codes "switch") ∷ AnEndBy (codes "port") ∷ []
form_of WalkNothing = Fixed (codes "walk") ∷ Fixed (codes "nothing") ∷ []
form_of MapComplete =
    Fixed (codes "map") ∷ Of HostName ∷ Fixed (codes "complete") ∷ Fixed (codes "asks") ∷ Of Digits
    ∷ Fixed (codes "packets") ∷ Of Digits ∷ []
form_of MapDoubtful =
    Fixed (codes "map") ∷ Of HostName ∷ Fixed (codes "doubtful") ∷ Of Digits ∷ Fixed (codes "asks") ∷ Of Digits
    ∷ Fixed (codes "packets") ∷ Of Digits ∷ []
form_of MapDepth =
    Fixed (codes "map") ∷ Of HostName ∷ Fixed (codes "incomplete") ∷ Fixed (codes "depth") ∷ Fixed (codes "asks")
    ∷ Of Digits ∷ Fixed (codes "packets") ∷ Of Digits ∷ []
form_of MapNodes =
    Fixed (codes "map") ∷ Of HostName ∷ Fixed (codes "incomplete") ∷ Fixed (codes "nodes") ∷ Fixed (codes "asks")
    ∷ Of Digits ∷ Fixed (codes "packets") ∷ Of Digits ∷ []
form_of MapBusy = Fixed (codes "map") ∷ Of HostName ∷ Fixed (codes "refused") ∷ Fixed (codes "busy") ∷ []
form_of CircuitDepth =
    Fixed (codes "circuit") ∷ Of HostName ∷ Fixed (codes "depth") ∷ Of value ∷ Fixed (codes "asks") ∷ Of Digits ∷ []
form_of CircuitNodes =
    Fixed (codes "circuit") ∷ Of HostName ∷ Fixed (codes "nodes") ∷ Fixed (codes "asks") ∷ Of Digits ∷ []
form_of Routes = Fixed (codes "routes") ∷ Of value ∷ []
form_of NoMap = Fixed (codes "routes") ∷ Fixed (codes "refused") ∷ Fixed (codes "nomap") ∷ []
form_of Route = Fixed (codes "route") ∷ Of HostName ∷ Of HostName ∷ Rest Turn ∷ []
form_of Rank = Fixed (codes "rank") ∷ Of MapPlace ∷ Of Turn ∷ Of value ∷ []
form_of EndRoutes = Fixed (codes "endroutes") ∷ []
form_of Installed = Fixed (codes "installed") ∷ Of Digits ∷ Fixed (codes "of") ∷ Of value ∷ []
form_of InstallRefused =
    Fixed (codes "install") ∷ Fixed (codes "refused") ∷ Of (OneOf (codes "noroutes" ∷ codes "busy" ∷ codes "changed"
    ∷ codes "installed" ∷ codes "epochs" ∷ [])) ∷ []
form_of Table = Fixed (codes "table") ∷ Of HostName ∷ Of (OneOf (codes "active" ∷ codes "none" ∷ [])) ∷ []
form_of CallDone = Of call ∷ Of HostName ∷ Of (NumberTo 7) ∷ Fixed (codes "done") ∷ []
form_of CallCounted = Of call ∷ Of HostName ∷ Of (NumberTo 7) ∷ Fixed (codes "done") ∷ Of value ∷ []
form_of CallToken = Of call ∷ Of HostName ∷ Of (NumberTo 7) ∷ Fixed (codes "token") ∷ Of value ∷ []
form_of CallSent =
    Of call ∷ Of HostName ∷ Of (NumberTo 7) ∷ Fixed (codes "sent") ∷ Fixed (codes "token") ∷ Of value ∷ []
form_of CallReceived =
    Of call ∷ Of HostName ∷ Of (NumberTo 7) ∷ Fixed (codes "received") ∷ Fixed (codes "token") ∷ Of value
    ∷ Fixed (codes "from") ∷ Of HostName ∷ Of (NumberTo 7) ∷ Fixed (codes "prio") ∷ Of (NumberTo 1)
    ∷ Fixed (codes "len") ∷ Of value ∷ Fixed (codes "bytes") ∷ Of Hex ∷ []
form_of CallNothing = Of call ∷ Of HostName ∷ Of (NumberTo 7) ∷ Fixed (codes "nothing") ∷ []
form_of CallRefused =
    Of call ∷ Of HostName ∷ Of (NumberTo 7) ∷ Fixed (codes "refused") ∷ Of (OneOf (codes "already" ∷ codes "notopen"
    ∷ codes "notoken" ∷ codes "toolong" ∷ codes "noroute" ∷ codes "spent" ∷ codes "badsize" ∷ [])) ∷ []
form_of CallUnfinished =
    Of call ∷ Of HostName ∷ Of (NumberTo 7) ∷ Fixed (codes "refused") ∷ Of (OneOf (codes "busy" ∷ codes "unread"
    ∷ codes "filling" ∷ [])) ∷ Of Digits ∷ []
form_of Tokens = Fixed (codes "tokens") ∷ Of HostName ∷ Of (NumberTo 7) ∷ Fixed (codes "send") ∷ Rest place ∷ []
form_of PlanAt = Fixed (codes "plan") ∷ Fixed (codes "at") ∷ Of Digits ∷ []
form_of StepDid =
    Fixed (codes "step") ∷ Of (OneOf (codes "idle" ∷ codes "lost" ∷ codes "reset" ∷ codes "flipped"
    ∷ codes "expired" ∷ codes "gaveup" ∷ [])) ∷ []
form_of StepCounted =
    Fixed (codes "step") ∷ Of (OneOf (codes "injected" ∷ codes "repeated" ∷ codes "held" ∷ [])) ∷ Of Digits ∷ []
form_of StepPlaced =
    Fixed (codes "step") ∷ Of (OneOf (codes "moved" ∷ codes "blocked" ∷ codes "replayed" ∷ [])) ∷ AnEnd ∷ []
form_of StepArrived =
    Fixed (codes "step") ∷ Fixed (codes "arrived") ∷ Of HostName ∷ Of (OneOf (codes "probe" ∷ codes "reply"
    ∷ codes "loop" ∷ codes "routes" ∷ codes "routesack" ∷ codes "message" ∷ codes "fragment" ∷ codes "notnext"
    ∷ codes "notoken" ∷ codes "ack" ∷ [])) ∷ []
form_of StepDropped =
    Fixed (codes "step") ∷ Fixed (codes "dropped") ∷ Of (OneOf (codes "outofrange" ∷ codes "notroute"
    ∷ codes "nocable" ∷ codes "newcable" ∷ codes "badcrc" ∷ codes "routeleft" ∷ codes "unknowntype"
    ∷ codes "malformed" ∷ codes "notmine" ∷ [])) ∷ []
form_of Settle =
    Fixed (codes "settle") ∷ Fixed (codes "rounds") ∷ Of Digits ∷ Fixed (codes "resets") ∷ Of Digits
    ∷ Fixed (codes "unacked") ∷ Of Digits ∷ []
form_of Finish = Fixed (codes "end") ∷ Fixed (codes "injected") ∷ Of Digits ∷ Fixed (codes "dropped") ∷ Of Digits ∷ []
form_of Pulled = Fixed (codes "pull") ∷ AnEnd ∷ Fixed (codes "done") ∷ []
form_of PullRefused = Fixed (codes "pull") ∷ AnEnd ∷ Fixed (codes "refused") ∷ Fixed (codes "nocable") ∷ []
form_of Plugged = Fixed (codes "plug") ∷ AnEnd ∷ AnEnd ∷ Fixed (codes "done") ∷ []
form_of PlugRefused =
    Fixed (codes "plug") ∷ AnEnd ∷ AnEnd ∷ Fixed (codes "refused") ∷ Of (OneOf (codes "portused" ∷ codes "full"
    ∷ [])) ∷ []
form_of Revoked = Fixed (codes "revoked") ∷ Of Digits ∷ []
form_of Broken = Fixed (codes "broken") ∷ Of HostName ∷ Of HostName ∷ []
form_of EndBroken = Fixed (codes "endbroken") ∷ []
form_of NoBroken = Fixed (codes "broken") ∷ Fixed (codes "refused") ∷ Fixed (codes "noroutes") ∷ []
form_of GenHead =
    Fixed (codes "gen") ∷ Of Digits ∷ Of Digits ∷ Fixed (codes "hosts") ∷ Of Digits ∷ Fixed (codes "switches")
    ∷ Of Digits ∷ Fixed (codes "cables") ∷ Of Digits ∷ []
form_of GenComplete =
    Fixed (codes "map") ∷ Fixed (codes "complete") ∷ Fixed (codes "asks") ∷ Of Digits ∷ Fixed (codes "packets")
    ∷ Of Digits ∷ []
form_of GenDoubtful =
    Fixed (codes "map") ∷ Fixed (codes "doubtful") ∷ Of Digits ∷ Fixed (codes "asks") ∷ Of Digits
    ∷ Fixed (codes "packets") ∷ Of Digits ∷ []
form_of GenDepth =
    Fixed (codes "map") ∷ Fixed (codes "incomplete") ∷ Fixed (codes "depth") ∷ Fixed (codes "asks") ∷ Of Digits
    ∷ Fixed (codes "packets") ∷ Of Digits ∷ []
form_of GenNodes =
    Fixed (codes "map") ∷ Fixed (codes "incomplete") ∷ Fixed (codes "nodes") ∷ Fixed (codes "asks") ∷ Of Digits
    ∷ Fixed (codes "packets") ∷ Of Digits ∷ []
form_of GenCount = Fixed (codes "messages") ∷ Of Digits ∷ Fixed (codes "received") ∷ Of Digits ∷ []
form_of DuoDid =
    Fixed (codes "duo") ∷ Of (OneOf (codes "idle" ∷ codes "hello" ∷ codes "stale" ∷ codes "message"
    ∷ codes "notnext" ∷ codes "notoken" ∷ codes "ack" ∷ codes "expired" ∷ codes "nothing" ∷ [])) ∷ []
form_of DuoCounted =
    Fixed (codes "duo") ∷ Of (OneOf (codes "token" ∷ codes "emitted" ∷ codes "sent" ∷ codes "unsure"
    ∷ codes "restarted" ∷ [])) ∷ Of Digits ∷ []
form_of DuoRefused =
    Fixed (codes "duo") ∷ Fixed (codes "refused") ∷ Of (OneOf (codes "notoken" ∷ codes "toolong" ∷ codes "spent"
    ∷ codes "badsize" ∷ [])) ∷ []
form_of DuoReceived = Fixed (codes "duo") ∷ Fixed (codes "received") ∷ Of Digits ∷ Of Hex ∷ []

-- The form of each kind of line of a map.
abbrev pub map_form : MapLineKind → List Slot
map_form Host = Fixed (codes "host") ∷ Of HostName ∷ []
map_form Switch = Fixed (codes "switch") ∷ Of MapPlace ∷ Of (OneOf (codes "core" ∷ codes "outside" ∷ [])) ∷ []
map_form Cable = Fixed (codes "cable") ∷ Of MapPlace ∷ Of Turn ∷ Of MapPlace ∷ Of Turn ∷ []
map_form End = Fixed (codes "endmap") ∷ []
