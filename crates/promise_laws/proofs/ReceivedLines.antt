-- The lines of a run show what its acts hand to clients, and what sends were accepted with.
use Rattle.std.proofs.Common.{◌≡◌, ◌+◌, ℕ, false, List, [], ◌∷◌, ◌++◌, map, length, Option, Some, None, option_map, length-append, refl, sym, ap, ◌∙◌, subst, arith, append_assoc, append-nil, if◌then◌else◌}
use Rattle.std.specs.Prelude.{◌-◌}
use Rattle.std.specs.List.{AllByRecursion, filter}
use Rattle.net_defs.specs.declared.route.Route.{Route}
use Rattle.net_defs.specs.declared.vertex.End.{End}
use Rattle.net_defs.specs.Network.{Network, IsFabric}
use Rattle.world_defs.specs.Crossed.{leaving}
use Rattle.net_defs.proofs.Distinct.{all-push}
use Rattle.journal_defs.specs.declared.entry.Entry.{Entry}
use Rattle.gm_defs.specs.declared.frame.ConnectionKey.{ConnectionKey}
use Rattle.gm_defs.specs.Token.{PortState}
use Rattle.map_defs.specs.NetMap.{NetMap}
use Rattle.map_defs.specs.Orientation.{order_of}
use Rattle.map_defs.specs.Ranks.{ranks_of}
use Rattle.world_defs.specs.declared.effect.Said.{Said}
use Rattle.world_defs.specs.declared.event.Event.{Event}
use Rattle.world_defs.specs.declared.event.Event.TheVariants.{Inject, GiveUp, Advance, Lose, Repeat, Hold, Reset, Flip, Expire, Replay, Pull, Plug, Send, Poll}
use Rattle.world_defs.specs.Node.{port_at}
use Rattle.world_defs.specs.Client.{Called, sent_by}
use Rattle.world_defs.specs.Table.{Adoption}
use Rattle.world_defs.specs.World.{WorldState, new_world, node_at, client_at, adopted_by}
use Rattle.world_defs.specs.Sound.{IsPrefix}
use Rattle.world_defs.specs.Step.{wanted, step}
use Rattle.world_defs.specs.Log.{Log}
use Rattle.world_defs.specs.Logs as log
use Rattle.world_defs.proofs.LogRows.{SettlesBy, AsksBy, settle-row, asks-row, install-row}
use Rattle.world_defs.specs.Acts.{Act, Happens, Plans, Adopts, acted, acted_all, MayActAll, IsReached}
use Rattle.run_defs.specs.declared.command.Command.{Command}
use Rattle.run_defs.specs.declared.command.Command.TheVariants.{Walk, Map, Circuit, Routes, Install, Begin as BeginCommand, Close as CloseCommand, Poll as PollCommand, Tokens, Provide as ProvideCommand, Send as SendCommand, Plan, Step, Settle, Finish, Duo, Pull as PullCommand, Plug as PlugCommand, Revoke as RevokeCommand, Broken}
use Rattle.run_defs.specs.declared.command.StepLine.{StepLine}
use Rattle.run_defs.specs.declared.command.StepLine.TheVariants.{Inject as InjectLine, GiveUp as GiveUpLine, Advance as AdvanceLine, Lose as LoseLine, Repeat as RepeatLine, Hold as HoldLine, Reset as ResetLine, Flip as FlipLine, Expire as ExpireLine, Replay as ReplayLine}
use Rattle.run_defs.specs.declared.line.ClientCall.TheVariants.{Send as SendCall, Poll as PollCall}
use Rattle.run_defs.specs.declared.line.MapWords.{MapWords}
use Rattle.run_defs.specs.declared.line.MapWords.TheVariants.{Complete, Doubtful, IncompleteDepth, IncompleteNodes}
use Rattle.run_defs.specs.declared.line.Line.{Line}
use Rattle.run_defs.specs.declared.line.Line.TheVariants.{Client, Map as MapLine, Installed, EndRoutes, Step as StepOutput, Broken as BrokenLine, EndBroken}
use Rattle.run_defs.specs.Circuit.{IsCircuitTold}
use Rattle.run_defs.specs.Circuit.IsCircuitTold.{whole, too_many_nodes}
use Rattle.run_defs.specs.Output.{Piece, OneLine, MapLines, lines}
use Rattle.run_defs.specs.Session.{SessionState, LastRoutes, complete_map}
use Rattle.run_defs.specs.Deed.{Deed}
use Rattle.run_defs.specs.Mapped.{asks_of}
use Rattle.run_defs.specs.Outcome.{client_lines, on_channel, event_of, words_of, fault_of, token_lines, table_line, install_lines, set_of, installation, revocations, broken_routes, broken_lines, install_now, deed_of}
use Rattle.run_defs.specs.Run.{IsDeed, Does, Runs, IsRun, map_pieces, route_line, rank_line, routes_lines}
use Rattle.run_defs.specs.Run.IsDeed.{determined, maps, circuits, routes}
use Rattle.run_defs.proofs.Doing.{does-world, revoked-row}
use Rattle.run_defs.proofs.ByKind.{InDeed, refused-map, refused-routes, by-event, by-install}
use Rattle.run_defs.specs.Run.Runs.{ended, goes_on}
use Rattle.run_laws.specs.Acts.{IsActOf}
use Rattle.run_laws.proofs.RunsOnce.{runs-more}
use Rattle.message_laws.proofs.HostTickets.{all-front}
use Rattle.client_laws.specs.Handed.{handed_by, handed_in, waiting_in, IsOfConnection, is_on, is_to, as_handed, accepted_by, accepted_in}
use Rattle.client_laws.proofs.Accepted.{IsNoSend, none-accepted, accepted-sent}
use Rattle.client_laws.proofs.Fronts.{polled-front}
use Rattle.client_laws.proofs.Others.{seen-of_connections}
use Rattle.client_laws.proofs.Polled.{IsNoPoll, none-handed, polled-got}
use Rattle.promise_laws.specs.ReceivedLines.{received_in_line, received_in, send_answer, send_answers, is_send, accepted_as, accepted_by_lines, accepted_of, RunsReceiveAsSent}
use Rattle.promise_laws.proofs.Acting.{acted-append, may-append, deeds_are_single_acts}

-- events by which no client sends or polls
abbrev IsCalm : Event → Type 0
IsCalm (Send h port dest dport prio len seed) = ⊥
IsCalm (Poll h port) = ⊥
IsCalm _ = Unit {0}

no-poll : (e : Event) → IsCalm e → IsNoPoll (Happens e)
no-poll (Poll h port) calm = absurd calm
no-poll e calm = tt

no-send : (e : Event) → IsCalm e → IsNoSend (Happens e)
no-send (Send h port dest dport prio len seed) calm = absurd calm
no-send e calm = tt

calm-settles : SettlesBy IsCalm
calm-settles = record { clears = record { advance = λ c. tt; reset = λ c. tt }; inject = λ h. tt; replay = λ s. tt; expire = λ h peer. tt; give_up = λ h. tt }

calm-asks : AsksBy IsCalm
calm-asks = record { advance = λ c. tt; inject = λ h. tt; give_up = λ h. tt }

-- acts that hand out nothing and accept nothing
record IsStill (w : WorldState) (acts : List Act) : Type 0 where
  handed : (h port : ℕ) → handed_in h port w acts ≡ []
  accepted : (c : ConnectionKey) → accepted_in c w acts ≡ []

no-acts : (w : WorldState) → IsStill w []
no-acts w = record { handed = λ h port. refl; accepted = λ c. refl }

still-then : (w : WorldState) (a : Act) (acts : List Act) → IsNoPoll a → IsNoSend a → IsStill (acted w a) acts → IsStill w (a ∷ acts)
still-then w a acts poll send rest = record {
  handed = λ h port. ap (λ l. l ++ handed_in h port (acted w a) acts) (none-handed h port w a poll) ∙ rest.handed h port;
  accepted = λ c. ap (λ l. l ++ accepted_in c (acted w a) acts) (none-accepted c w a send) ∙ rest.accepted c;
}

calm-still : (w : WorldState) (es : List Event) → AllByRecursion IsCalm es → IsStill w (map Happens es)
calm-still w [] all = no-acts w
calm-still w (e ∷ es) all = still-then w (Happens e) (map Happens es) (no-poll e all.0) (no-send e all.0) (calm-still (step w e).1 es all.1)

-- lines of no send and no poll
abbrev IsOtherLine : Line → Type 0
IsOtherLine (Client SendCall h port said) = ⊥
IsOtherLine (Client PollCall h port said) = ⊥
IsOtherLine _ = Unit {0}

record IsSilent (out : List Piece) : Type 0 where
  received : (h port : ℕ) → received_in h port out ≡ []
  answers : send_answers out ≡ []

no-lines : IsSilent []
no-lines = record { received = λ h port. refl; answers = refl }

silent-then : (l : Line) (out : List Piece) → IsOtherLine l → IsSilent out → IsSilent (OneLine l ∷ out)
silent-then (Client SendCall i p said) out other rest = absurd other
silent-then (Client PollCall i p said) out other rest = absurd other
silent-then l out other rest = record { received = rest.received; answers = rest.answers }

map-silent : (m : NetMap) (out : List Piece) → IsSilent out → IsSilent (MapLines m ∷ out)
map-silent m out rest = record { received = rest.received; answers = rest.answers }

one-silent : (l : Line) → IsOtherLine l → IsSilent (OneLine l ∷ [])
one-silent l other = silent-then l [] other no-lines

lines-silent : (ls : List Line) → AllByRecursion IsOtherLine ls → IsSilent (lines ls)
lines-silent [] all = no-lines
lines-silent (l ∷ ls) all = silent-then l (lines ls) all.0 (lines-silent ls all.1)

mapped-other : {X : Type 0} (f : X → Line) (xs : List X) (rest : List Line) → ((x : X) → IsOtherLine (f x)) → AllByRecursion IsOtherLine rest → AllByRecursion IsOtherLine (map f xs ++ rest)
mapped-other f [] rest one all = all
mapped-other f (x ∷ xs) rest one all = (one x, mapped-other f xs rest one all)

-- what a command's lines show is what its acts hand out and accept
record Shows (w : WorldState) (cmd : Command) (out : List Piece) (acts : List Act) : Type 0 where
  handed : (h port : ℕ) → received_in h port out ≡ handed_in h port w acts
  accepted : (c : ConnectionKey) (cs : List Command) (more : List Said) → accepted_by_lines c (filter is_send (cmd ∷ cs)) (send_answers out ++ more) ≡ accepted_in c w acts ++ accepted_by_lines c (filter is_send cs) more
  answered : (cs : List Command) → length (filter is_send (cmd ∷ cs)) ≡ length (send_answers out) + length (filter is_send cs)

silent-shows : (w : WorldState) (cmd : Command) (out : List Piece) (acts : List Act) → is_send cmd ≡ false → IsSilent out → IsStill w acts → Shows w cmd out acts
silent-shows w cmd out acts other silent still = record {
  handed = λ h port. silent.received h port ∙ sym (still.handed h port);
  accepted = λ c cs more. ap (λ b. accepted_by_lines c (if b then cmd ∷ filter is_send cs else filter is_send cs) (send_answers out ++ more)) other
      ∙ ap (λ l. accepted_by_lines c (filter is_send cs) (l ++ more)) silent.answers
      ∙ ap (λ l. l ++ accepted_by_lines c (filter is_send cs) more) (sym (still.accepted c));
  answered = λ cs.
      let a : length (filter is_send (cmd ∷ cs)) ≡ length (filter is_send cs) = ap (λ b. length (if b then cmd ∷ filter is_send cs else filter is_send cs)) other in
      let b : length (send_answers out) ≡ 0 = ap length silent.answers in
      omega (arith, a, b);
}

quiet-shows : (w : WorldState) (cmd : Command) (l : Line) → is_send cmd ≡ false → IsOtherLine l → Shows w cmd (OneLine l ∷ []) []
quiet-shows w cmd l other is = silent-shows w cmd (OneLine l ∷ []) [] other (one-silent l is) (no-acts w)

event-shows : (w : WorldState) (cmd : Command) (l : Line) (e : Event) → is_send cmd ≡ false → IsOtherLine l → IsCalm e → Shows w cmd (OneLine l ∷ []) (Happens e ∷ [])
event-shows w cmd l e other is calm = silent-shows w cmd (OneLine l ∷ []) (Happens e ∷ []) other (one-silent l is) (calm-still w (e ∷ []) (calm, tt))

-- a poll, and a send
poll-shows : (s : SessionState) (i p : ℕ) → Shows s.world (PollCommand i p) (lines (client_lines PollCall i p (step s.world (Poll i p)).0)) (Happens (Poll i p) ∷ [])
poll-shows s i p = record { handed = λ h port. refl; accepted = λ c cs more. refl; answered = λ cs. omega arith }

send-shows : (s : SessionState) (h port dest dport prio len seed : ℕ)
    → Shows s.world (SendCommand h port dest dport prio len seed) (lines (client_lines SendCall h port (step s.world (Send h port dest dport prio len seed)).0)) (Happens (Send h port dest dport prio len seed) ∷ [])
send-shows s h port dest dport prio len seed =
    let call : Called = sent_by (node_at s.world h) (wanted port dest dport prio len seed) (client_at s.world h port) in
    record {
      handed = λ i p. refl;
      accepted = λ c cs more. ap (λ l. l ++ accepted_by_lines c (filter is_send cs) more) (sym (append-nil (accepted_as c (SendCommand h port dest dport prio len seed) call.said)));
      answered = λ cs. omega arith;
    }

-- what a deed shows
abbrev ShowsDeed : SessionState → Command → Deed → Type 0
ShowsDeed s cmd d = Shows s.world cmd d.output d.acts

channel-calm : (w : WorldState) (at : End) (event : ℕ → Event) → ((c : ℕ) → IsCalm (event c)) → (e : Event) → on_channel w at event ≡ Some e → IsCalm e
channel-calm w at event calm e is = by (leaving w.links.cables at) is
  where
    by : (o : Option ℕ) → option_map event o ≡ Some e → IsCalm e
    by None p = cc
    by (Some c) p = let one : event c ≡ e = cc in subst IsCalm one (calm c)

some-calm : (d e : Event) → Some d ≡ Some e → IsCalm d → IsCalm e
some-calm d e p calm = let one : d ≡ e = cc in subst IsCalm one calm

line-calm : (w : WorldState) (line : StepLine) (e : Event) → event_of w line ≡ Some e → IsCalm e
line-calm w (InjectLine h) e is = some-calm (Inject h) e is tt
line-calm w (GiveUpLine h) e is = some-calm (GiveUp h) e is tt
line-calm w (AdvanceLine at) e is = channel-calm w at Advance (λ c. tt) e is
line-calm w (LoseLine at) e is = channel-calm w at Lose (λ c. tt) e is
line-calm w (RepeatLine at) e is = channel-calm w at Repeat (λ c. tt) e is
line-calm w (HoldLine at) e is = channel-calm w at Hold (λ c. tt) e is
line-calm w (ResetLine at) e is = channel-calm w at Reset (λ c. tt) e is
line-calm w (FlipLine at bit pattern) e is = channel-calm w at (λ c. Flip c bit pattern) (λ c. tt) e is
line-calm w (ExpireLine h peer) e is = some-calm (Expire h peer) e is tt
line-calm w (ReplayLine serial) e is = some-calm (Replay serial) e is tt

-- an installation
done-silent : (hosts : List ℕ) (r : Log ℕ) → IsSilent (lines (install_lines hosts r))
done-silent hosts r = silent-then (Installed r.value (length hosts)) (lines (map (table_line r.world) hosts)) tt (lines-silent (map (table_line r.world) hosts) (tables-other hosts))
  where
    tables-other : (hs : List ℕ) → AllByRecursion IsOtherLine (map (table_line r.world) hs)
    tables-other [] = tt
    tables-other (h ∷ hs) = (tt, tables-other hs)

install-now-shows : (s : SessionState) (l : LastRoutes) (tries : ℕ) → ShowsDeed s (Install tries) (install_now s.world l tries)
install-now-shows s l tries =
    let w : WorldState = adopted_by s.world l.mapper l.routes in
    let r : Log ℕ = installation s.world l tries in
    silent-shows s.world (Install tries) (lines (install_lines l.hosts r)) (Adopts l.mapper l.routes ∷ map Happens r.events) refl (done-silent l.hosts r)
    (still-then s.world (Adopts l.mapper l.routes) (map Happens r.events) tt tt (calm-still w r.events (install-row calm-asks (λ dst part. tt) (set_of s.world l) l.hosts tries w).kinds))

-- the places of tokens
tokens-silent : (h port : ℕ) (o : Option PortState) → IsSilent (lines (token_lines h port o))
tokens-silent h port None = one-silent _ tt
tokens-silent h port (Some p) = one-silent _ tt

-- routes that are broken
broken-silent : (w : WorldState) (o : Option Adoption) → IsSilent (lines (broken_lines w o))
broken-silent w None = one-silent _ tt
broken-silent w (Some a) =
    let line : Route → Line = λ r. BrokenLine r.from r.to in
    lines-silent (map line (broken_routes w a) ++ EndBroken ∷ []) (mapped-other line (broken_routes w a) (EndBroken ∷ []) (λ r. tt) (tt, tt))

deed-shows : (s : SessionState) (cmd : Command) → InDeed (ShowsDeed s cmd) (deed_of s cmd)
deed-shows s (Walk host walk) = quiet-shows s.world (Walk host walk) _ refl tt
deed-shows s (Map host depth tries) = refused-map (ShowsDeed s (Map host depth tries)) s.world host (quiet-shows s.world (Map host depth tries) _ refl tt)
deed-shows s (Circuit host depth) = tt
deed-shows s Routes = refused-routes (ShowsDeed s Routes) (complete_map s.last_map) (quiet-shows s.world Routes _ refl tt)
deed-shows s (Install tries) = by-install (ShowsDeed s (Install tries)) s.world tries s.last_routes (λ cause. quiet-shows s.world (Install tries) _ refl tt) (λ l are may. install-now-shows s l tries)
deed-shows s (BeginCommand h port sends recvs) = event-shows s.world (BeginCommand h port sends recvs) _ (Event.Begin h port sends recvs) refl tt tt
deed-shows s (CloseCommand h port) = event-shows s.world (CloseCommand h port) _ (Event.Close h port) refl tt tt
deed-shows s (PollCommand h port) = poll-shows s h port
deed-shows s (Tokens h port) = silent-shows s.world (Tokens h port) _ [] refl (tokens-silent h port (port_at (node_at s.world h) port)) (no-acts s.world)
deed-shows s (ProvideCommand h port size prio) = event-shows s.world (ProvideCommand h port size prio) _ (Event.Provide h port size prio) refl tt tt
deed-shows s (SendCommand h port dest dport prio len seed) = send-shows s h port dest dport prio len seed
deed-shows s (Plan ahead kind) = silent-shows s.world (Plan ahead kind) _ (Plans ahead (fault_of kind) ∷ []) refl (one-silent _ tt) (still-then s.world (Plans ahead (fault_of kind)) [] tt tt (no-acts _))
deed-shows s (Step line) =
    by-event (ShowsDeed s (Step line)) s.world (λ effect v. StepOutput (words_of v effect) ∷ []) (event_of s.world line) (quiet-shows s.world (Step line) _ refl tt)
    (λ e is. event-shows s.world (Step line) _ e refl tt (line-calm s.world line e is))
deed-shows s Settle = silent-shows s.world Settle _ (map Happens (log.settle s.world).events) refl (one-silent _ tt) (calm-still s.world (log.settle s.world).events (settle-row calm-settles s.world).kinds)
deed-shows s Finish = quiet-shows s.world Finish _ refl tt
deed-shows s (Duo e) = silent-shows s.world (Duo e) _ [] refl (one-silent _ tt) (no-acts s.world)
deed-shows s (PullCommand at) = event-shows s.world (PullCommand at) _ (Pull at) refl tt tt
deed-shows s (PlugCommand a b) = event-shows s.world (PlugCommand a b) _ (Plug a b) refl tt tt
deed-shows s RevokeCommand = silent-shows s.world RevokeCommand _ (map Happens (revocations s.world)) refl (one-silent _ tt) (calm-still s.world (revocations s.world) (revoked-row {Q = IsCalm} (λ h. tt) s.world).kinds)
deed-shows s Broken = silent-shows s.world Broken _ [] refl (broken-silent s.world s.world.adopted) (no-acts s.world)

-- a map that was made, of circuit links too, and routes
pieces-silent : (words : MapWords) (m : NetMap) → IsSilent (map_pieces words m)
pieces-silent Complete m = map-silent m [] no-lines
pieces-silent (Doubtful k) m = map-silent m [] no-lines
pieces-silent IncompleteDepth m = map-silent m [] no-lines
pieces-silent IncompleteNodes m = no-lines

circuit-silent : {n : Network} {host depth : ℕ} {out : List Piece} → IsCircuitTold n host depth out → IsSilent out
circuit-silent (whole j m growing end are is) = subst IsSilent (sym is) (silent-then _ (MapLines m ∷ []) tt (map-silent m [] no-lines))
circuit-silent (too_many_nodes j growing end is) = subst IsSilent (sym is) (one-silent _ tt)

routes-silent : (m : NetMap) (found : List Route) → IsSilent (lines (routes_lines m found))
routes-silent m found =
    let ranks : List Line = map (rank_line m) (ranks_of m (order_of m)) in
    let all : AllByRecursion IsOtherLine (map route_line found ++ (ranks ++ EndRoutes ∷ [])) =
    mapped-other route_line found (ranks ++ EndRoutes ∷ []) (λ r. tt) (mapped-other (rank_line m) (ranks_of m (order_of m)) (EndRoutes ∷ []) (λ k. tt) (tt, tt)) in
    lines-silent (routes_lines m found) (tt, subst (AllByRecursion IsOtherLine) (sym (append_assoc (map route_line found) ranks (EndRoutes ∷ []))) all)

still-shows : (s : SessionState) (cmd : Command) (out : List Piece) → is_send cmd ≡ false → IsSilent out → Shows s.world cmd out []
still-shows s cmd out other silent = silent-shows s.world cmd out [] other silent (no-acts s.world)

shows-so : {s : SessionState} {cmd : Command} {d : Deed} → IsDeed s cmd d → ShowsDeed s cmd d
shows-so {s = s} {cmd = cmd} (determined e) = subst (InDeed (ShowsDeed s cmd)) e (deed-shows s cmd)
shows-so {s = s} {cmd = cmd} (maps {host = host} {depth = depth} {tries = tries} after j m words idle made is) =
    let l : Log log.AskedAll = asks_of host tries j s.world in
    let row = asks-row calm-asks (λ h walk looped. tt) s.world.links.cables.changes host tries (map (λ (e : Entry). e.walk) j) s.world in
    let line : Line = MapLine host words (length j) (after.injected - s.world.injected) in
    subst (ShowsDeed s cmd) (sym is)
    (silent-shows s.world cmd (OneLine line ∷ map_pieces words m) (map Happens l.events) refl (silent-then line (map_pieces words m) tt (pieces-silent words m)) (calm-still s.world l.events row.kinds))
shows-so {s = s} {cmd = cmd} (circuits out so is) = subst (ShowsDeed s cmd) (sym is) (still-shows s cmd out refl (circuit-silent so))
shows-so {s = s} {cmd = cmd} (routes l found complete are is) = subst (ShowsDeed s cmd) (sym is) (still-shows s cmd (lines (routes_lines l.made found)) refl (routes-silent l.made found))

does-show : {s next : SessionState} {cmd : Command} {out : List Piece} → (d : Does s cmd out next) → Shows s.world cmd out d.deed.acts
does-show {s = s} {cmd = cmd} d = subst (λ ps. Shows s.world cmd ps d.deed.acts) (sym d.prints) (shows-so d.is)

-- lines, answers and acts one after another
received-append : (h port : ℕ) (xs ys : List Piece) → received_in h port (xs ++ ys) ≡ received_in h port xs ++ received_in h port ys
received-append h port [] ys = refl
received-append h port (OneLine l ∷ xs) ys = ap (λ r. received_in_line h port l ++ r) (received-append h port xs ys) ∙ sym (append_assoc (received_in_line h port l) (received_in h port xs) (received_in h port ys))
received-append h port (MapLines m ∷ xs) ys = received-append h port xs ys

answers-append : (xs ys : List Piece) → send_answers (xs ++ ys) ≡ send_answers xs ++ send_answers ys
answers-append [] ys = refl
answers-append (OneLine l ∷ xs) ys = ap (λ r. send_answer l ++ r) (answers-append xs ys) ∙ sym (append_assoc (send_answer l) (send_answers xs) (send_answers ys))
answers-append (MapLines m ∷ xs) ys = answers-append xs ys

handed-append : (h port : ℕ) (w : WorldState) (xs ys : List Act) → handed_in h port w (xs ++ ys) ≡ handed_in h port w xs ++ handed_in h port (acted_all w xs) ys
handed-append h port w [] ys = refl
handed-append h port w (x ∷ xs) ys =
    ap (λ l. handed_by h port w x ++ l) (handed-append h port (acted w x) xs ys) ∙ sym (append_assoc (handed_by h port w x) (handed_in h port (acted w x) xs) (handed_in h port (acted_all (acted w x) xs) ys))

accepted-append : (c : ConnectionKey) (w : WorldState) (xs ys : List Act) → accepted_in c w (xs ++ ys) ≡ accepted_in c w xs ++ accepted_in c (acted_all w xs) ys
accepted-append c w [] ys = refl
accepted-append c w (x ∷ xs) ys =
    ap (λ l. accepted_by c w x ++ l) (accepted-append c (acted w x) xs ys) ∙ sym (append_assoc (accepted_by c w x) (accepted_in c (acted w x) xs) (accepted_in c (acted_all (acted w x) xs) ys))

-- what the lines of the rest of a run show, and its acts
record Tells (w v : WorldState) (cs : List Command) (out : List Piece) : Type 0 where
  acts : List Act
  may : MayActAll w acts
  leads : v ≡ acted_all w acts
  handed : (h port : ℕ) → received_in h port out ≡ handed_in h port w acts
  accepted : (c : ConnectionKey) → accepted_by_lines c (filter is_send cs) (send_answers out) ≡ accepted_in c w acts
  answered : length (filter is_send cs) ≡ length (send_answers out)

joined : (w v : WorldState) (cmd : Command) (cs : List Command) (out rest : List Piece) (acts : List Act) → MayActAll w acts → Shows w cmd out acts → Tells (acted_all w acts) v cs rest → Tells w v (cmd ∷ cs) (out ++ rest)
joined w v cmd cs out rest acts may one t =
    record {
      acts = acts ++ t.acts;
      may = may-append w acts t.acts may t.may;
      leads = t.leads ∙ sym (acted-append w acts t.acts);
      handed = λ h port. received-append h port out rest ∙ ap (λ l. l ++ received_in h port rest) (one.handed h port) ∙ ap (λ l. handed_in h port w acts ++ l) (t.handed h port) ∙ sym (handed-append h port w acts t.acts);
      accepted = λ c. ap (λ l. accepted_by_lines c (filter is_send (cmd ∷ cs)) l) (answers-append out rest)
          ∙ one.accepted c cs (send_answers rest)
          ∙ ap (λ l. accepted_in c w acts ++ l) (t.accepted c)
          ∙ sym (accepted-append c w acts t.acts);
      answered =
          let a = one.answered cs in
          let b = t.answered in
          let c : length (send_answers (out ++ rest)) ≡ length (send_answers out ++ send_answers rest) = ap length (answers-append out rest) in
          let d = length-append (send_answers out) (send_answers rest) in
          omega (arith, a, b, c, d);
    }

module _ (n : Network) (f : IsFabric n) where
  runs-tell : {s last : SessionState} {cs : List Command} {out : List Piece} → (done : List Command) (before : List Piece) → AllByRecursion (IsActOf n) done → AllByRecursion (IsActOf n) cs → IsRun n done before s → Runs s cs out last
      → Tells s.world last.world cs out
  runs-tell done before of_n all run ended = record { acts = []; may = tt; leads = refl; handed = λ h port. refl; accepted = λ c. refl; answered = refl }
  runs-tell {s = s} {last = last} done before of_n all run (goes_on {next = next} {c = c} {cs = cs} {out = printed} {rest = rest} d r e) =
      let may = (deeds_are_single_acts n done before s c d.deed f of_n all.0 run d.is).may in
      let one : Shows s.world c printed d.deed.acts = does-show d in
      let t : Tells next.world last.world cs rest = runs-tell (done ++ c ∷ []) (before ++ printed) (all-push (IsActOf n) done c of_n all.0) all.1 (runs-more c printed run d) r in
      subst (Tells s.world last.world (c ∷ cs)) (sym e) (joined s.world last.world c cs printed rest d.deed.acts may one (subst (λ w. Tells w last.world cs rest) (does-world d) t))

pub runs-receive_as_sent : RunsReceiveAsSent
runs-receive_as_sent n commands out last f all run =
    let t : Tells (new_world n) last.world commands out = runs-tell n f [] [] tt all ended run in
    let is : IsReached n last.world = record { fabric = f; acts = t.acts; may = t.may; leads = t.leads } in
    record {
      front = λ c port low. subst (λ l. IsPrefix (filter (is_on c.src c.prio) l) (map (as_handed c.src) (filter (is_to port) (accepted_of c commands out)))) (sym (t.handed c.dst port))
          (subst (λ l. IsPrefix (filter (is_on c.src c.prio) (handed_in c.dst port (new_world n) t.acts)) (map (as_handed c.src) (filter (is_to port) l))) (sym (t.accepted c)) (polled-front n last.world is c port low));
      waits = λ c port low. ap (λ l. filter (is_on c.src c.prio) (l ++ waiting_in (port_at (node_at last.world c.dst) port))) (t.handed c.dst port) ∙ polled-got n last.world is c port low;
      sent = λ c. t.accepted c ∙ accepted-sent n last.world is c;
      only = λ h port. subst (AllByRecursion (IsOfConnection (length n.hosts))) (sym (t.handed h port))
          (all-front (IsOfConnection (length n.hosts)) (handed_in h port (new_world n) t.acts) (waiting_in (port_at (node_at last.world h) port)) (seen-of_connections n last.world is h port));
      answered = sym t.answered;
    }
