-- After every run, what a command of the network prints is an answer.
use Rattle.std.proofs.Common.{◌≡◌, ◌≤◌, ℕ, Bool, true, false, not, map, List, [], ◌∷◌, ◌++◌, length, Option, Some, None, option_map, is_some, IfSome, Ok, refl, sym, ap, ◌∙◌, subst, append_assoc, true≢false, arith, if◌then◌else◌}
use Rattle.std.specs.Prelude.{◌-◌}
use Rattle.std.specs.List.{AllByRecursion, filter}
use Rattle.std.proofs.lemmas.Option.{same_Some}
use Rattle.net_defs.specs.Network.{Network, IsFabric}
use Rattle.net_defs.specs.declared.vertex.End.{End}
use Rattle.journal_defs.specs.declared.entry.Entry.{Entry}
use Rattle.world_defs.specs.Crossed.{leaving}
use Rattle.net_defs.proofs.Distinct.{all-weaker}
use Rattle.journal_defs.proofs.Members.{all-join}
use Rattle.fabric_file.specs.Reading.{AreNamed}
use Rattle.map_canon.specs.Reading.{map_reading}
use Rattle.map_defs.specs.NetMap.{NetMap}
use Rattle.world_defs.specs.declared.event.Event.{Event}
use Rattle.world_defs.specs.declared.event.Event.TheVariants.{Advance, Lose, Repeat, Hold, Reset, Flip, Pull as PullEvent, Plug as PlugEvent}
use Rattle.world_defs.specs.World.{WorldState, fabric_of, node_at}
use Rattle.world_defs.specs.Table.{ActiveTable, active_epoch}
use Rattle.world_defs.specs.Step.{step, steps}
use Rattle.install_laws.specs.Tables.{has_table}
use Rattle.install_laws.proofs.Worlds.{event-set}
use Rattle.mapping_laws.specs.Runs.{IsSessionOf}
use Rattle.mapping_laws.proofs.Sessions.{can-map-now, run_keeps_world}
use Rattle.mapping_laws.proofs.Made.{mapping_keeps, made_map_is_right}
use Rattle.mapping_laws.proofs.Holding.{set-events, run_holds_right}
use Rattle.run_laws.proofs.RunsOnce.{runs-more}
use Rattle.run_laws.specs.Acts.{IsActOf}
use Rattle.run_laws.proofs.InstallLines.{line-true}
use Rattle.print_laws.proofs.Pieces.{maps_of_runs_read_back}
use Rattle.promise_laws.specs.CableLines.{IsPulled, IsPlugged}
use Rattle.promise_laws.proofs.Pulls.{pull_line-true}
use Rattle.promise_laws.proofs.Plugs.{plug_line-true}
use Rattle.promise_laws.proofs.Said.{said-command, said-act}
use Rattle.run_defs.specs.declared.command.Command.{Command}
use Rattle.run_defs.specs.declared.command.Command.TheVariants.{Walk, Map, Circuit, Routes, Install, Begin, Close, Poll, Tokens, Provide, Send, Plan, Step, Settle, Finish, Duo, Pull, Plug, Revoke, Broken}
use Rattle.run_defs.specs.declared.command.StepLine.{StepLine}
use Rattle.run_defs.specs.declared.command.StepLine.TheVariants.{Inject as InjectLine, GiveUp as GiveUpLine, Advance as AdvanceLine, Lose as LoseLine, Repeat as RepeatLine, Hold as HoldLine, Reset as ResetLine, Flip as FlipLine, Expire as ExpireLine, Replay as ReplayLine}
use Rattle.run_defs.specs.declared.line.Line.TheVariants.{Map as MapLine, InstallRefused, Pull as PullLine, Plug as PlugLine}
use Rattle.run_defs.specs.declared.line.PlugWords.{PlugWords}
use Rattle.run_defs.specs.Mapped.{IsMapped}
use Rattle.run_defs.specs.LineText.{map_text}
use Rattle.run_defs.specs.Output.{Piece, OneLine, MapLines, lines}
use Rattle.run_defs.specs.Session.{SessionState, LastRoutes, complete_map}
use Rattle.run_defs.specs.Outcome.{event_of, is_done, words_of_plug, revocations, revoke_lines, one_event, table_line, installation, install_now, install, refusal_cause, seen, outcome}
use Rattle.run_defs.specs.Deed.{says}
use Rattle.run_defs.specs.declared.line.InstallCause.TheVariants.{Busy}
use Rattle.run_defs.specs.Run.{Does, IsRun}
use Rattle.run_defs.proofs.Doing.{Doing, doing, does, acted-installation, acted-revocations}
use Rattle.run_defs.proofs.Doing.Doing.{determined, maps, circuits, routes}
use Rattle.run_defs.specs.Headline.{FitsFabric}
use Rattle.fab_script.specs.Ranges.{IsHost, IsEnd, IsCommandOf}
use Rattle.answer_defs.specs.Answer.{Answered}
use Rattle.judge_laws.specs.Lines.{IsCounted}
use Rattle.judge_laws.specs.Commands.{IsToldOf, IsAnsweredBy, is_of_network, CommandsAreAnswered}
use Rattle.judge_laws.proofs.Unpulled.{Still, pulls_or_plugs, event-still, event-plan, asks-still, revoked-still}
use Rattle.judge_laws.proofs.Stepped.{step-named}
use Rattle.judge_laws.proofs.Doing.{step_lines, pull_done, plug_done, CountsTables, AnsweredIn, end-same, stepped-answered, idle-answered, walk-answered, busy-answered, plan-answered, settle-answered, finish-answered, pull-answered, plug-answered, revoke-answered, install-answered, map-answered, circuit-answered, nomap-answered, routes-answered, broken-answered}
use Rattle.judge_laws.proofs.Held.{HoldsFine, run-fine, routes-fine, last-complete, all-hosts}

-- the hosts of the last routes as a line counts them
hosts-counted : (n : Network) (s : SessionState) → IsFabric n → HoldsFine n s → (l : LastRoutes) → s.last_routes ≡ Some l → IsCounted (length l.hosts) × AllByRecursion (IsHost n) l.hosts
hosts-counted n s f holds l are =
    let h = holds.hosts l are in
    let few = h.few in
    let most = f.few_hosts in
    (omega arith, all-hosts n l.hosts h.all)

-- the hosts that an installation counts have active tables
active-tables : (w : WorldState) (hosts : List ℕ) → length (filter (has_table w) hosts) ≡ length (filter (λ h. is_some (active_epoch (node_at w h).table)) hosts)
active-tables w hosts = λ i. length (filter (λ h. same (node_at w h).table.active i) hosts)
  where
    same : (o : Option ActiveTable) → is_some o ≡ is_some (option_map (λ (t : ActiveTable). t.epoch) o)
    same None = refl
    same (Some t) = refl

counts-tables : (n : Network) (commands : List Command) (out : List Piece) (s : SessionState) → IsFabric n → AllByRecursion (IsActOf n) commands → IsRun n commands out s → (tries : ℕ) → CountsTables s tries
counts-tables n commands out s f all run tries l are idle may =
    let r = installation s.world l tries in
    let o = seen s (install_now s.world l tries) in
    let e : outcome s (Install tries) ≡ Some o =
    ap (λ (x : Option LastRoutes). Some (seen s (install s.world tries x))) are
    ∙ (λ i. Some (seen s (if not (idle i) then says (InstallRefused Busy ∷ []) else if not (may i) then says (InstallRefused (refusal_cause s.world l) ∷ []) else install_now s.world l tries))) in
    let line = line-true n commands out (lines (map (table_line r.world) l.hosts)) s o.after tries r.value (length l.hosts) f all run (does (determined e)) in
    let same : line.last ≡ l = same_Some line.last l (sym line.are ∙ are) in
    let counted = subst (λ (x : LastRoutes). r.value ≤ length (filter (has_table o.after.world) x.hosts)) same line.tables in
    let after : o.after.world ≡ r.world = acted-installation s.world l tries in
    let now = subst (λ (w : WorldState). r.value ≤ length (filter (has_table w) l.hosts)) after counted in
    subst (λ k. r.value ≤ k) (active-tables r.world l.hosts) now

-- what a line of a pull or a plug says
line-done : (at : End) (x y : Bool) → OneLine (PullLine at x) ∷ [] ≡ OneLine (PullLine at y) ∷ [] → x ≡ y
line-done at x y e = cc

line-plugged : (a b : End) (x y : PlugWords) → OneLine (PlugLine a b x) ∷ [] ≡ OneLine (PlugLine a b y) ∷ [] → x ≡ y
line-plugged a b x y e = cc

-- a pull and a plug, by what their lines say
pulled-answered : (n : Network) (before : List Answered) (s : SessionState) → IsToldOf n before s → (at : End) → IsSessionOf n s → IsEnd n at → AnsweredIn n before s (Pull at) (outcome s (Pull at))
pulled-answered n before s told at is there =
    let r = step s.world (PullEvent at) in
    let o = pull_done s at r in
    let line = pull_line-true s o.after at o.output (does (determined refl)) in
    let same : line.0 ≡ is_done r.0 = line-done at line.0 (is_done r.0) (sym line.1) in
    pull-answered n before s told at r there (event-set s.world (PullEvent at)) (subst (IsPulled s.world r.1 at) same line.2) (event-plan s.world (PullEvent at))

plugged-answered : (n : Network) (before : List Answered) (s : SessionState) → IsToldOf n before s → (a b : End) → IsSessionOf n s → IsEnd n a → IsEnd n b → AnsweredIn n before s (Plug a b) (outcome s (Plug a b))
plugged-answered n before s told a b is one other =
    let k = fabric_of s.world in
    let hosts : k.hosts ≡ n.hosts = ap (λ (x : Network). x.hosts) is.first in
    let switches : k.switches ≡ n.switches = ap (λ (x : Network). x.switches) is.first in
    let r = step s.world (PlugEvent a b) in
    let o = plug_done s a b r in
    let first = end-same n k a.v a.p hosts switches ∙ one in
    let second = end-same n k b.v b.p hosts switches ∙ other in
    let line = plug_line-true s o.after a b o.output first second (does (determined refl)) in
    let same : line.0 ≡ words_of_plug s.world a b = line-plugged a b line.0 (words_of_plug s.world a b) (sym line.1) in
    plug-answered n before s told a b r one other first second (event-set s.world (PlugEvent a b)) (subst (IsPlugged s.world r.1 a b) same line.2) (event-plan s.world (PlugEvent a b))

-- a single event neither pulls nor plugs
channel-quiet : (o : Option ℕ) (event : ℕ → Event) → ((c : ℕ) → pulls_or_plugs (event c) ≡ false) → IfSome (option_map event o) (λ e. pulls_or_plugs e ≡ false)
channel-quiet None event quiet = tt
channel-quiet (Some c) event quiet = quiet c

event-quiet : (w : WorldState) (line : StepLine) → IfSome (event_of w line) (λ e. pulls_or_plugs e ≡ false)
event-quiet w (InjectLine h) = refl
event-quiet w (GiveUpLine h) = refl
event-quiet w (AdvanceLine e) = channel-quiet (leaving w.links.cables e) Advance (λ c. refl)
event-quiet w (LoseLine e) = channel-quiet (leaving w.links.cables e) Lose (λ c. refl)
event-quiet w (RepeatLine e) = channel-quiet (leaving w.links.cables e) Repeat (λ c. refl)
event-quiet w (HoldLine e) = channel-quiet (leaving w.links.cables e) Hold (λ c. refl)
event-quiet w (ResetLine e) = channel-quiet (leaving w.links.cables e) Reset (λ c. refl)
event-quiet w (FlipLine e bit pattern) = channel-quiet (leaving w.links.cables e) (λ c. Flip c bit pattern) (λ c. refl)
event-quiet w (ExpireLine h peer) = refl
event-quiet w (ReplayLine serial) = refl

step-answered : (n : Network) (before : List Answered) (s : SessionState) → IsToldOf n before s → (line : StepLine) → IsSessionOf n s → (o : Option Event) → IfSome o (λ e. pulls_or_plugs e ≡ false) → AnsweredIn n before s (Step line) (Some (seen s (one_event s.world step_lines o)))
step-answered n before s told line is None quiet = idle-answered n before s told line
step-answered n before s told line is (Some e) quiet =
    let hosts : (fabric_of s.world).hosts ≡ n.hosts = ap (λ (x : Network). x.hosts) is.first in
    let switches : (fabric_of s.world).switches ≡ n.switches = ap (λ (x : Network). x.switches) is.first in
    stepped-answered n before s told line (step s.world e) (step-named n s.world is.world.links is.history hosts switches e) (event-set s.world e) (event-still s.world e quiet)

outcome-answered : (n : Network) (before : List Answered) (s : SessionState) (c : Command) → ((tries : ℕ) → CountsTables s tries) → IsFabric n → IsSessionOf n s → HoldsFine n s → IsToldOf n before s → IsCommandOf n c → is_of_network c ≡ true → AnsweredIn n before s c (outcome s c)
outcome-answered n before s (Walk host walk) enough f is holds told of_n kind = walk-answered n before s told host walk is
outcome-answered n before s (Map host depth tries) enough f is holds told of_n kind = busy-answered n before s told host depth tries of_n.0
outcome-answered n before s (Circuit host depth) enough f is holds told of_n kind = tt
outcome-answered n before s Routes enough f is holds told of_n kind = nomap-answered n before s told (complete_map s.last_map)
outcome-answered n before s (Install tries) enough f is holds told of_n kind = install-answered n before s told tries s.last_routes refl (enough tries) (hosts-counted n s f holds)
outcome-answered n before s (Begin h port sends recvs) enough f is holds told of_n kind = absurd (true≢false (sym kind))
outcome-answered n before s (Close h port) enough f is holds told of_n kind = absurd (true≢false (sym kind))
outcome-answered n before s (Poll h port) enough f is holds told of_n kind = absurd (true≢false (sym kind))
outcome-answered n before s (Tokens h port) enough f is holds told of_n kind = absurd (true≢false (sym kind))
outcome-answered n before s (Provide h port size prio) enough f is holds told of_n kind = absurd (true≢false (sym kind))
outcome-answered n before s (Send h port dest dport prio len seed) enough f is holds told of_n kind = absurd (true≢false (sym kind))
outcome-answered n before s (Plan ahead kind_of) enough f is holds told of_n kind = plan-answered n before s told ahead kind_of
outcome-answered n before s (Step line) enough f is holds told of_n kind = step-answered n before s told line is (event_of s.world line) (event-quiet s.world line)
outcome-answered n before s Settle enough f is holds told of_n kind = settle-answered n before s told
outcome-answered n before s Finish enough f is holds told of_n kind = finish-answered n before s told
outcome-answered n before s (Duo e) enough f is holds told of_n kind = absurd (true≢false (sym kind))
outcome-answered n before s (Pull at) enough f is holds told of_n kind = pulled-answered n before s told at is of_n
outcome-answered n before s (Plug a b) enough f is holds told of_n kind = plugged-answered n before s told a b is of_n.0 of_n.1
outcome-answered n before s Revoke enough f is holds told of_n kind =
    subst (λ v. IsAnsweredBy n before s Revoke (lines (revoke_lines s.world)) (record s { world = v })) (sym (acted-revocations s.world))
    (revoke-answered n before s told (steps s.world (revocations s.world)) (ap (λ (v : WorldState). v.adopted) (sym (acted-revocations s.world)) ∙ set-events s.world (revocations s.world)) (revoked-still s.world))
outcome-answered n before s Broken enough f is holds told of_n kind = broken-answered n before s told s.world.adopted refl holds.adopted

-- a map that a command prints after a run is read again
module _ (n : Network) (commands : List Command) (out : List Piece) (s : SessionState) (f : IsFabric n) (good : AreNamed n) (all : AllByRecursion (FitsFabric n) commands) (r : IsRun n commands out s) where
  map-back : (c : Command) (next : SessionState) (printed before behind : List Piece) (m : NetMap) → FitsFabric n c → Does s c printed next → printed ≡ before ++ MapLines m ∷ behind → map_reading n (map_text n m) ≡ Ok m
  map-back c next printed before behind m of_n d e =
      (maps_of_runs_read_back n (commands ++ c ∷ []) (out ++ printed) next (out ++ before) behind m f good (all-join (FitsFabric n) commands (c ∷ []) all (of_n, tt)) (runs-more c printed r d)
      (ap (λ l. out ++ l) e ∙ sym (append_assoc out before (MapLines m ∷ behind)))).read

does-answered : {s next : SessionState} {c : Command} {printed : List Piece} → (n : Network) (commands : List Command) (out : List Piece) (before : List Answered) → IsFabric n → AreNamed n → AllByRecursion (IsCommandOf n) commands → IsCommandOf n c → IsRun n commands out s
    → IsToldOf n before s → Doing s c printed next → is_of_network c ≡ true → IsAnsweredBy n before s c printed next
does-answered {s = s} {c = c} n commands out before f good all of_n r told (determined e) kind =
    let over = all-weaker (IsCommandOf n) (FitsFabric n) commands (said-command n) all in
    subst (AnsweredIn n before s c) e (outcome-answered n before s c (counts-tables n commands out s f (all-weaker (IsCommandOf n) (IsActOf n) commands (said-act n) all) r) f (run_keeps_world n commands out s f over r) (run-fine n commands out s f over r) told of_n kind)
does-answered {s = s} {next = next} {printed = printed} n commands out before f good all of_n r told (maps {host = host} {depth = depth} {tries = tries} after j m words idle made is left) kind =
    let over = all-weaker (IsCommandOf n) (FitsFabric n) commands (said-command n) all in
    let can = can-map-now n s host depth tries (said-command n (Map host depth tries) of_n) (run_keeps_world n commands out s f over r) idle in
    let same = (mapping_keeps host depth tries s.world after j m words can made).0.adopted in
    let line = OneLine (MapLine host words (length j) (after.injected - s.world.injected)) in
    subst (IsAnsweredBy n before s (Map host depth tries) printed) (sym left)
    (map-answered n before s told host depth tries (length j) (after.injected - s.world.injected) m words s.world.links.cables.changes after printed of_n.0
    (λ behind e. map-back n commands out s f good over r (Map host depth tries) next printed (line ∷ []) behind m (said-command n (Map host depth tries) of_n) (does (maps after j m words idle made is left)) (is ∙ ap (λ l. line ∷ l) e))
    (λ says. made_map_is_right host depth tries s.world after j m can (subst (IsMapped host depth tries s.world after j m) says made)) same
    (λ still. subst (Still s.world) (sym made.led) (asks-still s.world.links.cables.changes host tries (map (λ (x : Entry). x.walk) j) s.world still)) is)
does-answered {s = s} {next = next} {printed = printed} n commands out before f good all of_n r told (circuits {host = host} {depth = depth} is left) kind =
    let over = all-weaker (IsCommandOf n) (FitsFabric n) commands (said-command n) all in
    let most = of_n.1.1 in
    subst (IsAnsweredBy n before s (Circuit host depth) printed) (sym left)
    (circuit-answered n before s told (fabric_of s.world) host depth printed of_n.0 (omega arith)
    (λ m l e. map-back n commands out s f good over r (Circuit host depth) next printed (OneLine l ∷ []) [] m (said-command n (Circuit host depth) of_n) (does (circuits is left)) e) is)
does-answered {s = s} {next = next} {printed = printed} n commands out before f good all of_n r told (routes l found complete are is left) kind =
    let over = all-weaker (IsCommandOf n) (FitsFabric n) commands (said-command n) all in
    let session = run_keeps_world n commands out s f over r in
    let holds = run-fine n commands out s f over r in
    let fine = routes-fine n s l found f session (run_holds_right n commands out s f over r) holds complete are in
    subst (IsAnsweredBy n before s Routes printed) (sym left) (routes-answered n before s told l found printed f session complete (holds.map l (last-complete s.last_map l complete)) fine are is)

pub commands_are_answered : CommandsAreAnswered
commands_are_answered n commands out printed before s next c f good all of_n r told d kind = does-answered n commands out before f good all of_n r told (doing d) kind
