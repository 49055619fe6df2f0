-- What each command is, where that is determined: a deed, by the kind of the command. That leaves out a map that is
-- made, a map of circuit links, and routes that are computed.
use Rattle.std.specs.Prelude.{ℕ, Bool, true, false, not, ◌&&◌, nat_eq, nat_lt, List, [], ◌∷◌, ◌++◌, map, length, min}
use Rattle.std.specs.Prelude.{if◌then◌else◌, Option, Some, None, option_map, is_some}
use Rattle.std.specs.List.{range_with_len, filter}
use Rattle.net_defs.specs.declared.vertex.End.{End}
use Rattle.net_defs.specs.declared.route.Route.{Route}
use Rattle.net_defs.specs.Building.{cable_refusal}
use Rattle.net_defs.specs.Route.{place}
use Rattle.net_defs.specs.Examples.{host_end}
use Rattle.world_defs.specs.History.{cable_limit}
use Rattle.world_defs.specs.Crossed.{leaving, life_tail}
use Rattle.world_defs.specs.Links.{is_idle}
use Rattle.gm_defs.specs.declared.token.TokenPlace.{TokenPlace}
use Rattle.gm_defs.specs.Token.{PortState, place_of_send, place_of_recv}
use Rattle.duo_defs.specs.declared.event.DuoEvent.{DuoEvent}
use Rattle.duo_defs.specs.declared.effect.DuoEffect.{DuoEffect}
use Rattle.duo_defs.specs.Duo.{DuoState}
use Rattle.duo_defs.specs.Step.{step as duo_step}
use Rattle.world_defs.specs.declared.event.Event.{Event}
use Rattle.world_defs.specs.declared.event.Event.TheVariants.{Inject, Advance, Lose, Repeat, Hold, Flip, Replay, Reset}
use Rattle.world_defs.specs.declared.event.Event.TheVariants.{Expire, GiveUp, Begin, Close, Provide, Send, Poll}
use Rattle.world_defs.specs.declared.event.Event.TheVariants.{Pull, Plug, Revoke}
use Rattle.world_defs.specs.declared.effect.Effect.{Effect}
use Rattle.world_defs.specs.declared.effect.Effect.TheVariants.{Idle, Injected, Moved, Blocked, Arrived, Dropped, Lost}
use Rattle.world_defs.specs.declared.effect.Effect.TheVariants.{Reset as WasReset, Flipped, Expired, GaveUp, Repeated}
use Rattle.world_defs.specs.declared.effect.Effect.TheVariants.{Held, Replayed, Staged, Said as SaidSo}
use Rattle.world_defs.specs.declared.effect.Said.TheVariants.{Done, Refused}
use Rattle.world_defs.specs.declared.client.ClientCause.TheVariants.{NotOpen}
use Rattle.world_defs.specs.declared.fault.Fault.{Fault}
use Rattle.world_defs.specs.declared.fault.Fault.TheVariants.{Lose as LoseFault, Repeat as RepeatFault}
use Rattle.world_defs.specs.declared.fault.Fault.TheVariants.{Hold as HoldFault, Flip as FlipFault, Pull as PullFault}
use Rattle.world_defs.specs.Table.{Adoption, active_epoch}
use Rattle.world_defs.specs.Node.{port_at}
use Rattle.world_defs.specs.World.{WorldState, fabric_of, node_at, planned, epoch_of, first_unrevoked, may_adopt}
use Rattle.world_defs.specs.World.{adoption_of, adopted_by, last_count, addresses}
use Rattle.world_defs.specs.Step.{step, steps}
use Rattle.world_defs.specs.Traffic.{is_broken}
use Rattle.world_defs.specs.Settle.{unacknowledged_in}
use Rattle.world_defs.specs.Acts.{Happens, Plans, Adopts}
use Rattle.world_defs.specs.Log.{Log}
use Rattle.world_defs.specs.Logs as log
use Rattle.run_defs.specs.declared.command.Command.{Command}
use Rattle.run_defs.specs.declared.command.Command.TheVariants.{Walk, Map, Circuit, Routes, Install}
use Rattle.run_defs.specs.declared.command.Command.TheVariants.{Begin as BeginCommand}
use Rattle.run_defs.specs.declared.command.Command.TheVariants.{Close as CloseCommand, Poll as PollCommand, Tokens}
use Rattle.run_defs.specs.declared.command.Command.TheVariants.{Provide as ProvideCommand, Send as SendCommand, Plan}
use Rattle.run_defs.specs.declared.command.Command.TheVariants.{Step, Settle, Finish, Duo, Broken}
use Rattle.run_defs.specs.declared.command.Command.TheVariants.{Pull as PullCommand, Plug as PlugCommand}
use Rattle.run_defs.specs.declared.command.Command.TheVariants.{Revoke as RevokeCommand}
use Rattle.run_defs.specs.declared.command.PlanKind.{PlanKind}
use Rattle.run_defs.specs.declared.command.PlanKind.TheVariants.{Lose as PlanLose, Repeat as PlanRepeat}
use Rattle.run_defs.specs.declared.command.PlanKind.TheVariants.{Hold as PlanHold, Flip as PlanFlip, Pull as PlanPull}
use Rattle.run_defs.specs.declared.command.StepLine.{StepLine}
use Rattle.run_defs.specs.declared.command.StepLine.TheVariants.{Inject as InjectLine, GiveUp as GiveUpLine}
use Rattle.run_defs.specs.declared.command.StepLine.TheVariants.{Advance as AdvanceLine, Lose as LoseLine}
use Rattle.run_defs.specs.declared.command.StepLine.TheVariants.{Repeat as RepeatLine, Hold as HoldLine}
use Rattle.run_defs.specs.declared.command.StepLine.TheVariants.{Reset as ResetLine, Flip as FlipLine}
use Rattle.run_defs.specs.declared.command.StepLine.TheVariants.{Expire as ExpireLine, Replay as ReplayLine}
use Rattle.run_defs.specs.declared.line.Line.{Line}
use Rattle.run_defs.specs.declared.line.Line.TheVariants.{Walk as WalkLine, MapBusy, NoMap, Installed, Table}
use Rattle.run_defs.specs.declared.line.Line.TheVariants.{InstallRefused, Client, Tokens as TokensLine, PlanAt}
use Rattle.run_defs.specs.declared.line.Line.TheVariants.{Step as StepOutput, Settle as SettleLine}
use Rattle.run_defs.specs.declared.line.Line.TheVariants.{Finish as FinishLine, Duo as DuoLine}
use Rattle.run_defs.specs.declared.line.Line.TheVariants.{Pull as PullLine, Plug as PlugLine, Revoked}
use Rattle.run_defs.specs.declared.line.Line.TheVariants.{Broken as BrokenLine, EndBroken, NoBroken}
use Rattle.run_defs.specs.declared.line.PlugWords.{PlugWords}
use Rattle.run_defs.specs.declared.line.PlugWords.TheVariants.{Done as Joined, PortUsed, Full}
use Rattle.run_defs.specs.declared.line.InstallCause.{InstallCause}
use Rattle.run_defs.specs.declared.line.InstallCause.TheVariants.{NoRoutes, Busy, Changed}
use Rattle.run_defs.specs.declared.line.InstallCause.TheVariants.{Installed as OtherInstalled, Epochs}
use Rattle.run_defs.specs.declared.line.ClientCall.{ClientCall}
use Rattle.run_defs.specs.declared.line.ClientCall.TheVariants.{Begin as BeginCall, Close as CloseCall}
use Rattle.run_defs.specs.declared.line.ClientCall.TheVariants.{Provide as ProvideCall, Send as SendCall}
use Rattle.run_defs.specs.declared.line.ClientCall.TheVariants.{Poll as PollCall, Tokens as TokensCall}
use Rattle.run_defs.specs.declared.line.StepWords.{StepWords}
use Rattle.run_defs.specs.declared.line.StepWords.TheVariants.{Idle as IdleWords, Injected as InjectedWords}
use Rattle.run_defs.specs.declared.line.StepWords.TheVariants.{Moved as MovedWords, Blocked as BlockedWords}
use Rattle.run_defs.specs.declared.line.StepWords.TheVariants.{Arrived as ArrivedWords, Dropped as DroppedWords}
use Rattle.run_defs.specs.declared.line.StepWords.TheVariants.{Lost as LostWords, Reset as ResetWords}
use Rattle.run_defs.specs.declared.line.StepWords.TheVariants.{Flipped as FlippedWords, Expired as ExpiredWords}
use Rattle.run_defs.specs.declared.line.StepWords.TheVariants.{GaveUp as GaveUpWords, Repeated as RepeatedWords}
use Rattle.run_defs.specs.declared.line.StepWords.TheVariants.{Held as HeldWords, Replayed as ReplayedWords}
use Rattle.run_defs.specs.declared.line.PlaceEntry.{PlaceEntry}
use Rattle.run_defs.specs.Deed.{Deed, Nothing, KeepsDuo, says, session_after}
use Rattle.run_defs.specs.Output.{Piece, lines}
use Rattle.run_defs.specs.Session.{SessionState, LastMap, LastRoutes, complete_map}
use Rattle.run_defs.specs.Duos.{begun}

-- a client's call: what it said
abbrev pub client_lines : ClientCall → ℕ → ℕ → Effect → List Line
client_lines call host port (SaidSo said) = Client call host port said ∷ []
client_lines call host port _ = []

-- the end that a channel leaves
abbrev pub tail_of : Option End → End
tail_of (Some e) = e
tail_of None = host_end 0

-- a channel as a report names it, by the end that it leaves
abbrev pub named_by_tail : WorldState → ℕ → End
named_by_tail w c = tail_of (life_tail w.links.cables c)

-- an effect in a report's words
abbrev pub words_of : WorldState → Effect → StepWords
words_of w Idle = IdleWords
words_of w (Injected n) = InjectedWords n
words_of w (Moved c) = MovedWords (named_by_tail w c)
words_of w (Blocked c) = BlockedWords (named_by_tail w c)
words_of w (Arrived h heard) = ArrivedWords h heard
words_of w (Dropped cause) = DroppedWords cause
words_of w Lost = LostWords
words_of w WasReset = ResetWords
words_of w Flipped = FlippedWords
words_of w Expired = ExpiredWords
words_of w GaveUp = GaveUpWords
words_of w (Repeated serial) = RepeatedWords serial
words_of w (Held serial) = HeldWords serial
words_of w (Replayed c) = ReplayedWords (named_by_tail w c)
words_of w Staged = IdleWords
words_of w (SaidSo said) = IdleWords

-- an event on the channel that leaves by an end: none without a cable there
abbrev pub on_channel : WorldState → End → (ℕ → Event) → Option Event
on_channel w e event = option_map event (leaving w.links.cables e)

-- the event of a step's line
abbrev pub event_of : WorldState → StepLine → Option Event
event_of w (InjectLine h) = Some (Inject h)
event_of w (GiveUpLine h) = Some (GiveUp h)
event_of w (AdvanceLine e) = on_channel w e Advance
event_of w (LoseLine e) = on_channel w e Lose
event_of w (RepeatLine e) = on_channel w e Repeat
event_of w (HoldLine e) = on_channel w e Hold
event_of w (ResetLine e) = on_channel w e Reset
event_of w (FlipLine e bit pattern) = on_channel w e (λ c. Flip c bit pattern)
event_of w (ExpireLine h peer) = Some (Expire h peer)
event_of w (ReplayLine serial) = Some (Replay serial)

-- the fault that a line of a plan means
abbrev pub fault_of : PlanKind → Fault
fault_of PlanLose = LoseFault
fault_of PlanRepeat = RepeatFault
fault_of PlanHold = HoldFault
fault_of (PlanFlip bit pattern) = FlipFault bit pattern
fault_of (PlanPull at) = PullFault at

-- the places of so many tokens, by number
abbrev pub places : ℕ → (ℕ → Option TokenPlace) → List PlaceEntry
places count place_of = map (λ t. record { number = t; place = place_of t }) (range_with_len 0 count)

-- the places of a port's tokens, where it is open; else the refusal
abbrev pub token_lines : ℕ → ℕ → Option PortState → List Line
token_lines host port None = Client TokensCall host port (Refused NotOpen) ∷ []
token_lines host port (Some p) = TokensLine host port (places p.sends (place_of_send p))
    (places p.recvs (place_of_recv p)) ∷ []

-- a settle prints its rounds, its resets and what isn't acknowledged after it; a count of resets stays at its last
-- value
abbrev pub settle_lines : Log log.Rounds → List Line
settle_lines l = SettleLine l.value.rounds (min l.value.resets last_count) (unacknowledged_in l.world) ∷ []

-- a host's table is active
abbrev pub table_line : WorldState → ℕ → Line
table_line w h = Table h (is_some (active_epoch (node_at w h).table))

-- an installation prints how many hosts have all parts acknowledged, of how many, and then each host's table
abbrev pub install_lines : List ℕ → Log ℕ → List Line
install_lines hosts l = Installed l.value (length hosts) ∷ map (table_line l.world) hosts

-- the last routes as the set that their mapper adopts in a world
abbrev pub set_of : WorldState → LastRoutes → Adoption
set_of w l = adoption_of w l.mapper l.routes

-- the last routes are adopted, and then installed on the hosts of their map
abbrev pub installation : WorldState → LastRoutes → ℕ → Log ℕ
installation w l tries = log.install (set_of w l) l.hosts tries (adopted_by w l.mapper l.routes)

-- why routes may not be adopted: a host hasn't given up the epoch of others, or there is no next one
abbrev pub adopt_cause : WorldState → InstallCause
adopt_cause w = if is_some (first_unrevoked w (epoch_of w)) then OtherInstalled else Epochs

-- routes may be installed where no cable was pulled or plugged since their map began, and they may be adopted
abbrev pub may_install : WorldState → LastRoutes → Bool
may_install w l = nat_eq l.began w.links.cables.changes && may_adopt w l.routes

-- why they may not
abbrev pub refusal_cause : WorldState → LastRoutes → InstallCause
refusal_cause w l = if nat_eq l.began w.links.cables.changes then adopt_cause w else Changed

-- an event of a cable, or of a host that gives up its epoch, was possible
abbrev pub is_done : Effect → Bool
is_done (SaidSo Done) = true
is_done _ = false

-- two ports are joined unless the fabric as it stands doesn't take a cable there, or all cables were named
abbrev pub words_of_plug : WorldState → End → End → PlugWords
words_of_plug w a b =
    if is_some (cable_refusal (fabric_of w) a b) then PortUsed
    else if nat_lt (length w.links.cables.wires) cable_limit then Joined
    else Full

-- each host gives up the epoch of the adopted routes, by rising address
abbrev pub revocations : WorldState → List Event
revocations w = map Revoke (addresses w)

-- that prints how many did
abbrev pub revoke_lines : WorldState → List Line
revoke_lines w = Revoked (length (filter is_done (steps w (revocations w)).0)) ∷ []

-- the adopted routes that cross a cable pulled since the adoption, in their order
abbrev pub broken_routes : WorldState → Adoption → List Route
broken_routes w a = filter (λ r. is_broken w r.from r.to) a.routes

-- these are printed, each by its hosts; where no routes are adopted that is refused
abbrev pub broken_lines : WorldState → Option Adoption → List Line
broken_lines w None = NoBroken ∷ []
broken_lines w (Some a) = map (λ r. BrokenLine r.from r.to) (broken_routes w a) ++ EndBroken ∷ []

-- What kind a command is of. Most are told by the lines that they print: of the world, where they only read it; or of
-- one event at most, by the world before it, its effect and the world after it.
pub data Kind : Type 0 where
  Reading : (WorldState → List Line) → Kind
  OneEvent : (WorldState → Option Event) → (WorldState → Effect → WorldState → List Line) → Kind
  Planning : ℕ → Fault → Kind
  Settling : Kind
  Revoking : Kind
  Installing : ℕ → Kind
  Mapping : ℕ → Kind
  MappingCircuits : Kind
  Routing : Kind
  OfTheDuo : DuoEvent → Kind

-- a client's call is one event, and prints what it said
abbrev pub calling : ClientCall → ℕ → ℕ → Event → Kind
calling call host port event = OneEvent (λ w. Some event) (λ w effect v. client_lines call host port effect)

-- the kind of each command
abbrev pub kind_of : Command → Kind
kind_of (Walk host walk) = Reading (λ w. WalkLine (place (fabric_of w) host walk) ∷ [])
kind_of (Map host depth tries) = Mapping host
kind_of (Circuit host depth) = MappingCircuits
kind_of Routes = Routing
kind_of (Install tries) = Installing tries
kind_of (BeginCommand h port sends recvs) = calling BeginCall h port (Begin h port sends recvs)
kind_of (CloseCommand h port) = calling CloseCall h port (Close h port)
kind_of (PollCommand h port) = calling PollCall h port (Poll h port)
kind_of (Tokens h port) = Reading (λ w. token_lines h port (port_at (node_at w h) port))
kind_of (ProvideCommand h port size prio) = calling ProvideCall h port (Provide h port size prio)
kind_of (SendCommand h port dest dport prio len seed) = calling SendCall h port (Send h port dest dport prio len seed)
kind_of (Plan ahead kind) = Planning ahead (fault_of kind)
kind_of (Step line) = OneEvent (λ w. event_of w line) (λ w effect v. StepOutput (words_of v effect) ∷ [])
kind_of Settle = Settling
kind_of Finish = Reading (λ w. FinishLine w.injected w.dropped ∷ [])
kind_of (Duo e) = OfTheDuo e
kind_of (PullCommand at) = OneEvent (λ w. Some (Pull at)) (λ w effect v. PullLine at (is_done effect) ∷ [])
kind_of (PlugCommand a b) = OneEvent (λ w. Some (Plug a b)) (λ w effect v. PlugLine a b (words_of_plug w a b) ∷ [])
kind_of RevokeCommand = Revoking
kind_of Broken = Reading (λ w. broken_lines w w.adopted)

-- events in a row, and what is printed of them
abbrev pub happening : List Event → List Line → Deed
happening events ls = record { acts = map Happens events; output = lines ls; note = Nothing }

-- an event, where there is one; else nothing happens, as if it had been idle
abbrev pub one_event : WorldState → (Effect → WorldState → List Line) → Option Event → Deed
one_event w print None = says (print Idle w)
one_event w print (Some event) = happening (event ∷ []) (print (step w event).0 (step w event).1)

-- a plan prints the number of the injection that it is for
abbrev pub planning : WorldState → ℕ → Fault → Deed
planning w ahead fault = record {
  acts = Plans ahead fault ∷ [];
  output = lines (PlanAt (planned w ahead fault).0 ∷ []);
  note = Nothing;
}

-- the last routes are adopted and installed, and what came of it is printed
abbrev pub install_now : WorldState → LastRoutes → ℕ → Deed
install_now w l tries = record {
  acts = Adopts l.mapper l.routes ∷ map Happens (installation w l tries).events;
  output = lines (install_lines l.hosts (installation w l tries));
  note = Nothing;
}

-- routes are installed where some were computed, the links are idle, and they may be installed
abbrev pub install : WorldState → ℕ → Option LastRoutes → Deed
install w tries None = says (InstallRefused NoRoutes ∷ [])
install w tries (Some l) =
    if not (is_idle w.links) then says (InstallRefused Busy ∷ [])
    else if not (may_install w l) then says (InstallRefused (refusal_cause w l) ∷ [])
    else install_now w l tries

-- a map is refused where a channel holds a packet; else its deed isn't determined here
abbrev pub map_refused : WorldState → ℕ → Option Deed
map_refused w host = if is_idle w.links then None else Some (says (MapBusy host ∷ []))

-- routes are refused where the last map isn't complete
abbrev pub routes_refused : Option LastMap → Option Deed
routes_refused (Some l) = None
routes_refused None = Some (says (NoMap ∷ []))

-- an event of the two hosts that restart prints what it did, and leaves the session with them
abbrev pub duo_done : DuoEffect × DuoState → Deed
duo_done (effect, d) = record { acts = []; output = lines (DuoLine effect ∷ []); note = KeepsDuo d }

-- What a command of each kind is in a session, where that is determined.
abbrev pub deed_of_kind : SessionState → Kind → Option Deed
deed_of_kind s (Reading print) = Some (says (print s.world))
deed_of_kind s (OneEvent event print) = Some (one_event s.world (print s.world) (event s.world))
deed_of_kind s (Planning ahead fault) = Some (planning s.world ahead fault)
deed_of_kind s Settling = Some (happening (log.settle s.world).events (settle_lines (log.settle s.world)))
deed_of_kind s Revoking = Some (happening (revocations s.world) (revoke_lines s.world))
deed_of_kind s (Installing tries) = Some (install s.world tries s.last_routes)
deed_of_kind s (Mapping host) = map_refused s.world host
deed_of_kind s MappingCircuits = None
deed_of_kind s Routing = routes_refused (complete_map s.last_map)
deed_of_kind s (OfTheDuo e) = Some (duo_done (duo_step (begun s.duo) e))

-- the deed of a command, where its session determines it
abbrev pub deed_of : SessionState → Command → Option Deed
deed_of s c = deed_of_kind s (kind_of c)

-- What a command prints, and the session after it.
pub record Outcome : Type 0 where
  pub output : List Piece
  pub after : SessionState

-- what is seen of a deed
abbrev pub seen : SessionState → Deed → Outcome
seen s d = record { output = d.output; after = session_after s d }

-- what a command prints, and the session after it, where its session determines its deed
abbrev pub outcome : SessionState → Command → Option Outcome
outcome s c = option_map (seen s) (deed_of s c)
