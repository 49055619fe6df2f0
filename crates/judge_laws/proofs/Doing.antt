-- What commands print is an answer, by what is known of the session before them.
use Rattle.std.proofs.Common.{◌≡◌, ◌≢◌, ◌≤◌, ℕ, Bool, true, false, not, ◌&&◌, List, [], ◌∷◌, ◌++◌, map, length, nat_eq, nat_lt, min, Option, Some, None, option_map, is_some, Ok, cond, refl, sym, ap, ◌∙◌, subst, arith, if◌then◌else◌}
use Rattle.std.specs.Prelude.{ℤ, slice_get}
use Rattle.std.specs.Option.{option_map_or}
use Rattle.std.specs.List.{AllByRecursion, filter, list_all, list_any, range_with_len}
use Rattle.std.proofs.lemmas.Bool.Decides.{Decides-eqb}
use Rattle.net_defs.specs.declared.vertex.Vertex.{Vertex}
use Rattle.net_defs.specs.declared.vertex.Vertex.TheVariants.{Host, Switch}
use Rattle.net_defs.specs.declared.vertex.End.{End}
use Rattle.net_defs.specs.Network.{Network, NamedSwitch, IsFabric, far, has_port, has_vertex, ports_of}
use Rattle.net_defs.specs.declared.fault.GraphFault.TheVariants.{NoVertex as LacksVertex, PortRange as LacksPort, PortUsed as UsedPort}
use Rattle.net_defs.specs.Building.{with_cable, cable_refusal, is_used}
use Rattle.net_defs.specs.declared.route.Route.{Route}
use Rattle.net_defs.specs.RouteSet.{route_below, AreRising}
use Rattle.net_defs.specs.Route.{place, place_at, place_at_vertex, entered_after, host_port, IsEntered}
use Rattle.net_defs.proofs.Ends.{same_end-refl}
use Rattle.net_defs.proofs.Places.{far-there}
use Rattle.net_defs.proofs.Cabling.{entered-there}
use Rattle.world_defs.proofs.Now.{now_is_fabric}
use Rattle.fabric_file.proofs.Names.{vertex-there}
use Rattle.fab_script.specs.Ranges.{IsHost, IsEnd}
use Rattle.world_defs.specs.Links.{is_idle}
use Rattle.map_defs.specs.declared.vertex.MapVertex.{MapVertex}
use Rattle.map_defs.specs.NetMap.{NetMap, hosts_of}
use Rattle.map_defs.specs.Orientation.{order_of}
use Rattle.map_defs.specs.Routing.{AreRoutesOf}
use Rattle.map_defs.specs.NetMap.{IsMap}
use Rattle.map_defs.specs.Routing.{IsLeastLegal}
use Rattle.map_defs.specs.Sameness.{IsMapOfPart}
use Rattle.map_defs.proofs.Certifying.{ranks_certify}
use Rattle.map_defs.specs.Ranks.{ranks_of}
use Rattle.map_defs.proofs.Places.{places_are_an_order}
use Rattle.map_canon.specs.Reading.{map_reading}
use Rattle.world_defs.specs.declared.effect.Effect.{Effect}
use Rattle.world_defs.specs.History.{fabric_now}
use Rattle.world_defs.specs.Fault.{accept}
use Rattle.world_defs.specs.World.{WorldState, fabric_of, node_at, planned, adopted_by, keeps_epoch, last_count}
use Rattle.world_defs.specs.Settle.{unacknowledged_in}
use Rattle.world_defs.specs.Traffic.{is_broken}
use Rattle.world_defs.specs.Table.{Adoption, active_epoch}
use Rattle.world_defs.specs.Log.{Log}
use Rattle.world_defs.specs.Logs as log
use Rattle.install_laws.proofs.Worlds.{settle-set, installed-set}
use Rattle.run_defs.specs.declared.command.Command.{Command}
use Rattle.run_defs.specs.declared.command.Command.TheVariants.{Walk, Map, Circuit, Routes, Install, Plan, Step, Settle, Finish, Pull, Plug, Revoke, Broken}
use Rattle.run_defs.specs.declared.command.PlanKind.{PlanKind}
use Rattle.run_defs.specs.declared.command.StepLine.{StepLine}
use Rattle.run_defs.specs.declared.line.StepWords.TheVariants.{Idle as IdleWords}
use Rattle.promise_laws.specs.CableLines.{IsPulled, IsPlugged}
use Rattle.run_defs.specs.declared.line.PlugWords.{PlugWords}
use Rattle.run_defs.specs.declared.line.PlugWords.TheVariants.{Done as Joined, PortUsed, Full}
use Rattle.run_defs.specs.declared.line.MapWords.{MapWords}
use Rattle.run_defs.specs.declared.line.MapWords.TheVariants.{Complete, Doubtful, IncompleteDepth, IncompleteNodes}
use Rattle.run_defs.specs.declared.line.InstallCause.TheVariants.{Busy, NoRoutes}
use Rattle.run_defs.specs.declared.line.InstallCause.{InstallCause}
use Rattle.run_defs.specs.declared.line.Line.{Line}
use Rattle.run_defs.specs.declared.line.Line.TheVariants.{NoMap, Broken as BrokenLine, EndBroken, Walk as WalkLine, Map as MapLine, MapBusy, Circuit as CircuitLine, CircuitNodes, InstallRefused, PlanAt, Step as StepOutput, Settle as SettleLine, Finish as FinishLine, Pull as PullLine, Plug as PlugLine, Revoked, NoBroken}
use Rattle.run_defs.specs.Circuit.{IsCircuitTold}
use Rattle.run_defs.specs.Circuit.IsCircuitTold.{whole, too_many_nodes}
use Rattle.run_defs.specs.LineText.{map_text}
use Rattle.run_defs.specs.Output.{Piece, OneLine, MapLines, lines}
use Rattle.run_defs.specs.Session.{SessionState, LastMap, LastRoutes, is_complete, complete_map as complete_of}
use Rattle.run_defs.specs.Deed.{says}
use Rattle.run_defs.specs.Outcome.{Outcome, fault_of, words_of, is_done, words_of_plug, install_lines, installation, one_event, install_now, install, set_of, may_install, refusal_cause, map_refused, routes_refused, broken_routes, broken_lines, seen, outcome}
use Rattle.run_defs.proofs.Doing.{acted-settle, acted-installation}
use Rattle.run_defs.specs.Run.{map_pieces, routes_lines, hosts_by_address}
use Rattle.mapping_laws.specs.Runs.{IsSessionOf}
use Rattle.report_lines.specs.declared.line.MapSaid.TheVariants.{Complete as SaidComplete, Doubtful as SaidDoubtful, Shallow, Overgrown}
use Rattle.report_lines.specs.declared.line.ReportLine.{ReportLine}
use Rattle.report_lines.specs.declared.line.ReportLine.TheVariants.{NoMap as NoMapSaid, NoBroken as NoBrokenSaid, Walk as WalkSaid, Map as MapRead, MapBusy as BusySaid, Circuit as CircuitSaid, CircuitNodes as NodesSaid, InstallRefused as InstallRefusedSaid, PlanAt as PlanSaid, Step as StepSaid, Settle as SettleSaid, Finish as FinishSaid, Pull as PullSaid, Plug as PlugSaid, Revoked as RevokedSaid}
use Rattle.answer_defs.specs.Answer.{Alone, WithMap, WithRoutes, WithTables, WithBroken, hosts_in, Answered, complete_by, complete_map, shown_by, shown_map, fabric_by, where_taken, are_adopted}
use Rattle.answer_defs.specs.Right.{MapIsTrue, LeadsBetween, AreRoutesTrue, HoldOn}
use Rattle.judge_defs.specs.Form.{may_answer}
use Rattle.judge_laws.specs.Lines.{Says, IsCounted}
use Rattle.judge_laws.specs.Answers.{is_alone, IsRouteIn, ArePairsRising, alone, with_map, with_routes, with_tables, with_broken}
use Rattle.judge_laws.specs.Commands.{with_lines, shown_of, IsToldOf, HasNoPull, PlansNoPull, TellsNothing, IsAnsweredBy}
use Rattle.judge_laws.proofs.Cabled.{fabric-pulled, fabric-plugged}
use Rattle.judge_laws.proofs.Unpulled.{Still, StaysStill, settle-still, install-still, plan-still}
use Rattle.judge_laws.proofs.Held.{IsKept, AreFine, count-of}
use Rattle.judge_laws.proofs.RouteWalks.{routes-rising, routes-counted}
use Rattle.judge_laws.proofs.Ranks.{ranks-in, ranks-rising}
use Rattle.judge_laws.proofs.Fits.{AreWordsIn}
use Rattle.judge_laws.proofs.Saying.{IsPlaceIn, is_joined, walk_line, map_line, busy_line, circuit_line, nodes_line, install_refused, plan_line, step_line, settle_line, finish_line, pull_line, plug_line, revoked_line, no_map, no_broken}

-- what an event, an installation or all revocations come to, by the effects and the world then
abbrev pub says_in : SessionState → List Line → WorldState → Outcome
says_in s ls w = record { output = lines ls; after = record s { world = w } }

abbrev pub step_lines : Effect → WorldState → List Line
step_lines effect w = StepOutput (words_of w effect) ∷ []

abbrev pub stepped : SessionState → Effect × WorldState → Outcome
stepped s r = says_in s (step_lines r.0 r.1) r.1

abbrev pub pull_done : SessionState → End → Effect × WorldState → Outcome
pull_done s at r = says_in s (PullLine at (is_done r.0) ∷ []) r.1

abbrev pub plug_done : SessionState → End → End → Effect × WorldState → Outcome
plug_done s a b r = says_in s (PlugLine a b (words_of_plug s.world a b) ∷ []) r.1

abbrev pub revoke_done : SessionState → List Effect × WorldState → Outcome
revoke_done s r = says_in s (Revoked (length (filter is_done r.0)) ∷ []) r.1

-- no more hosts are counted than have an active table then
abbrev pub HasTables : List ℕ → Log ℕ → Type 0
HasTables hosts r = r.value ≤ length (filter (λ h. is_some (active_epoch (node_at r.world h).table)) hosts)

-- so it is where the last routes may be installed
abbrev pub CountsTables : SessionState → ℕ → Type 0
CountsTables s tries =
    (l : LastRoutes) → s.last_routes ≡ Some l → is_idle s.world.links ≡ true → may_install s.world l ≡ true → HasTables l.hosts (installation s.world l tries)

-- every vertex is of the core
marks-true : (vertices : List MapVertex) → list_all (λ c. c) (map (λ v. true) vertices) ≡ true
marks-true [] = refl
marks-true (v ∷ vs) = marks-true vs

-- what a determined outcome prints is an answer
abbrev pub AnsweredIn : Network → List Answered → SessionState → Command → Option Outcome → Type 0
AnsweredIn n before s c None = Unit {0}
AnsweredIn n before s c (Some o) = IsAnsweredBy n before s c o.output o.after

-- places of the fabric as it stands are places of the fabric with its hosts and switches
pub end-same : (n k : Network) (v : Vertex) (p : ℕ) → k.hosts ≡ n.hosts → k.switches ≡ n.switches → nat_lt p (ports_of k v) ≡ nat_lt p (ports_of n v)
end-same n k (Host h) p hosts switches = λ i. nat_lt p (if nat_lt h (length (hosts i)) then 1 else 0)
end-same n k (Switch s) p hosts switches = λ i. nat_lt p (option_map_or (λ (w : NamedSwitch). w.ports) (slice_get (switches i) s) 0)

place-in : (n k : Network) (o : Option End) → k.hosts ≡ n.hosts → k.switches ≡ n.switches → IsEntered k o → IsPlaceIn n (place_at o)
place-in n k None hosts switches there = tt
place-in n k (Some e) hosts switches there = by e.v e.p (sym (end-same n k e.v e.p hosts switches) ∙ there)
  where
    by : (v : Vertex) (p : ℕ) → nat_lt p (ports_of n v) ≡ true → IsPlaceIn n (place_at_vertex v p)
    by (Host h) p there = vertex-there n (Host h) p there
    by (Switch s) p there = there

walk-in : (n k : Network) (host : ℕ) (walk : List ℤ) → IsFabric k → k.hosts ≡ n.hosts → k.switches ≡ n.switches → IsPlaceIn n (place k host walk)
walk-in n k host walk f hosts switches =
    let start = far k (host_port host) in
    place-in n k (entered_after k start walk) hosts switches (entered-there k start walk f (far-there k (host_port host) f))

-- a complete map has lines
complete-shown : (o : Option LastMap) (l : LastMap) → complete_of o ≡ Some l → shown_of o ≡ Some l.made
complete-shown None l e = cc
complete-shown (Some r) l e = by r.words e
  where
    by : (words : MapWords) → cond (is_complete words) (Some r) None ≡ Some l → with_lines words r.made ≡ Some l.made
    by Complete e = let one : r ≡ l = cc in ap (λ (x : LastMap). Some x.made) one
    by (Doubtful drowned) e = cc
    by IncompleteDepth e = cc
    by IncompleteNodes e = cc

-- the pairs of routes that pass a test rise, as the routes do
abbrev pair_of : Route → ℕ × ℕ
pair_of r = (r.from, r.to)

filter-all : (P : Route → Type 0) (p : Route → Bool) (rs : List Route) → AllByRecursion P rs → AllByRecursion P (filter p rs)
filter-all P p [] all = tt
filter-all P p (r ∷ rs) all = by (p r) (filter-all P p rs all.1)
  where
    by : (t : Bool) → AllByRecursion P (filter p rs) → AllByRecursion P (cond t (r ∷ filter p rs) (filter p rs))
    by true rest = (all.0, rest)
    by false rest = rest

filter-rising : (p : Route → Bool) (rs : List Route) → AreRising rs → AreRising (filter p rs)
filter-rising p [] rising = tt
filter-rising p (r ∷ rs) rising = by (p r) (filter-all (λ s. route_below r s ≡ true) p rs rising.0) (filter-rising p rs rising.1)
  where
    by : (t : Bool) → AllByRecursion (λ s. route_below r s ≡ true) (filter p rs) → AreRising (filter p rs) → AreRising (cond t (r ∷ filter p rs) (filter p rs))
    by true all rest = (all, rest)
    by false all rest = rest

pairs-from : (n : Network) (r : Route) (rs : List Route) → AllByRecursion (λ s. route_below r s ≡ true) rs → AreRising rs → AllByRecursion (IsRouteIn n) rs → ArePairsRising n (Some (pair_of r)) (map pair_of rs)
pairs-from n r [] all rising routes = tt
pairs-from n r (s ∷ ss) all rising routes = (all.0, (routes.0.sender, routes.0.receiver), pairs-from n s ss rising.0 rising.1 routes.1)

pairs-rising : (n : Network) (rs : List Route) → AreRising rs → AllByRecursion (IsRouteIn n) rs → ArePairsRising n None (map pair_of rs)
pairs-rising n [] rising routes = tt
pairs-rising n (r ∷ rs) rising routes = (refl, (routes.0.sender, routes.0.receiver), pairs-from n r rs rising.0 rising.1 routes.1)

-- the lines of broken routes, by their pairs
broken-pairs : (rs : List Route) → map (λ r. BrokenLine r.from r.to) rs ≡ map (λ p. BrokenLine p.0 p.1) (map pair_of rs)
broken-pairs [] = refl
broken-pairs (r ∷ rs) = ap (λ l. BrokenLine r.from r.to ∷ l) (broken-pairs rs)

-- each route leads from one host to another
each-leads : (m : NetMap) (rs : List Route) → AllByRecursion (λ r. r.from ≢ r.to) rs → AllByRecursion (λ r. IsLeastLegal m (order_of m) r.from r.to r.walk) rs → AllByRecursion (LeadsBetween m) rs
each-leads m [] differ least = tt
each-leads m (r ∷ rs) differ least = ((differ.0, least.0.leads), each-leads m rs differ.1 least.1)

host-same : (h : ℕ) → nat_eq h h ≡ true
host-same h = (Decides-eqb h h).1 refl

-- where the links are as before, no cable has come or gone
fabric-same : (w v : WorldState) → Still w v → fabric_of w ≡ fabric_of v
fabric-same w v k = sym (ap fabric_now k.cables)

-- after a pull and after a plug
pulled-fabric : (w v : WorldState) (at : End) (done : Bool) → IsPulled w v at done → fabric_by (Alone (PullSaid at done)) (fabric_of w) ≡ fabric_of v
pulled-fabric w v at true is = sym (ap fabric_now is.cables ∙ fabric-pulled w.links.cables at)
pulled-fabric w v at false is = ap fabric_of (sym (is.stays refl))

-- a fabric takes a cable between two ports that are there and free
takes-cable : (n : Network) (a b : End) → has_port n a ≡ true → has_port n b ≡ true → is_used n a b ≡ false → cable_refusal n a b ≡ None
takes-cable n a b p q s =
    let u : has_vertex n a.v ≡ true = vertex-there n a.v a.p p in
    let v : has_vertex n b.v ≡ true = vertex-there n b.v b.p q in
    (λ i. if not (u i) then Some LacksVertex else if not (v i) then Some LacksVertex else if not (p i) then Some LacksPort else if not (q i) then Some LacksPort
    else if s i then Some UsedPort else None)

-- what isn't true is false
unused : (used : Bool) → (used ≡ true → ⊥) → used ≡ false
unused true never = absurd (never refl)
unused false never = refl

plugged-fabric : (w v : WorldState) (a b : End) (words : PlugWords) → has_port (fabric_of w) a ≡ true → has_port (fabric_of w) b ≡ true → IsPlugged w v a b words
    → fabric_by (Alone (PlugSaid a b (is_joined words))) (fabric_of w) ≡ fabric_of v
plugged-fabric w v a b Joined one other is =
    let free : cable_refusal (fabric_of w) a b ≡ None = takes-cable (fabric_of w) a b one other (unused (is_used (fabric_of w) a b) (λ e. let words = is.used.1 e in cc)) in
    (λ i. where_taken (free i) (with_cable (fabric_of w) a b) (fabric_of w)) ∙ sym (ap fabric_now (is.joined refl) ∙ fabric-plugged w.links.cables a b)
plugged-fabric w v a b PortUsed one other is = ap fabric_of (sym (is.stays (λ e. cc)))
plugged-fabric w v a b Full one other is = ap fabric_of (sym (is.stays (λ e. cc)))

-- an adoption leaves the cables in place
adopted-fabric : (w : WorldState) (mapper : ℕ) (routes : List Route) → fabric_of (adopted_by w mapper routes) ≡ fabric_of w
adopted-fabric w mapper routes = by (keeps_epoch w routes)
  where
    by : (kept : Bool) → fabric_now (if kept then w.links else accept w.links).cables ≡ fabric_of w
    by true = refl
    by false = refl

-- over a fabric
module _ (n : Network) (before : List Answered) (s : SessionState) (told : IsToldOf n before s) where
  -- a line alone, of no map
  alone-answered : (c : Command) (l : Line) (r : ReportLine) (next : SessionState) → Says n l r → may_answer c r ≡ true → is_alone (are_adopted before) r ≡ true
      → ((o : Option NetMap) → complete_by (Alone r) o ≡ o) → ((o : Option NetMap) → shown_by (Alone r) o ≡ o)
      → next.last_map ≡ s.last_map → next.last_routes ≡ s.last_routes → next.world.adopted ≡ s.world.adopted
      → TellsNothing c (Alone r) → MapIsTrue (fabric_of s.world) (Alone r)
      → (HasNoPull s.world → PlansNoPull c → fabric_by (Alone r) (fabric_of s.world) ≡ fabric_of next.world) → (HasNoPull s.world → PlansNoPull c → HasNoPull next.world)
      → IsAnsweredBy n before s c (OneLine l ∷ []) next
  alone-answered c l r next says may only complete shown same_map same_routes same_set nothing right fabric unpulled = record {
    a = Alone r;
    printed = alone c l r says may only refl;
    told = record {
      complete = complete (complete_map before) ∙ told.complete ∙ ap (λ o. option_map (λ (x : LastMap). x.made) (complete_of o)) (sym same_map);
      shown = shown (shown_map before) ∙ told.shown ∙ ap shown_of (sym same_map);
      routed = told.routed ∙ ap (option_map (λ (x : LastRoutes). x.hosts)) (sym same_routes);
      adopted = told.adopted ∙ ap is_some (sym same_set);
    };
    nothing = nothing;
    maps = right;
    routes = tt;
    fabric = fabric;
    unpulled = unpulled;
  }

  -- one that leaves the session
  stays-answered : (c : Command) (l : Line) (r : ReportLine) → Says n l r → may_answer c r ≡ true → is_alone (are_adopted before) r ≡ true
      → ((o : Option NetMap) → complete_by (Alone r) o ≡ o) → ((o : Option NetMap) → shown_by (Alone r) o ≡ o) → TellsNothing c (Alone r) → MapIsTrue (fabric_of s.world) (Alone r)
      → fabric_by (Alone r) (fabric_of s.world) ≡ fabric_of s.world → IsAnsweredBy n before s c (OneLine l ∷ []) s
  stays-answered c l r says may only complete shown nothing right same =
      alone-answered c l r s says may only complete shown refl refl refl nothing right (λ still safe. same) (λ still safe. still)

  pub plan-answered : (ahead : ℕ) (kind : PlanKind) → AnsweredIn n before s (Plan ahead kind) (outcome s (Plan ahead kind))
  plan-answered ahead kind =
      let r = planned s.world ahead (fault_of kind) in
      alone-answered (Plan ahead kind) (PlanAt r.0) PlanSaid (record s { world = r.1 }) (plan_line r.0) refl refl (λ o. refl) (λ o. refl) refl refl refl (record { told = refl; lengths = tt; places = λ past. tt }) tt
      (λ still safe. refl) (λ still safe. (plan-still s.world ahead (fault_of kind) safe still).plan)

  -- a single event, and one on no channel
  pub stepped-answered : (line : StepLine) (r : Effect × WorldState) → AreWordsIn n (words_of r.1 r.0) → r.1.adopted ≡ s.world.adopted → StaysStill s.world r.1 → AnsweredIn n before s (Step line) (Some (stepped s r))
  stepped-answered line (effect, w) there same quiet =
      alone-answered (Step line) (StepOutput (words_of w effect)) StepSaid (record s { world = w }) (step_line (words_of w effect) there) refl refl (λ o. refl) (λ o. refl) refl refl same (record { told = refl; lengths = tt; places = λ past. tt }) tt
      (λ still no. fabric-same s.world w (quiet still)) (λ still no. (quiet still).plan)

  pub idle-answered : (line : StepLine) → AnsweredIn n before s (Step line) (Some (seen s (one_event s.world step_lines None)))
  idle-answered line = stays-answered (Step line) (StepOutput IdleWords) StepSaid (step_line IdleWords tt) refl refl (λ o. refl) (λ o. refl) (record { told = refl; lengths = tt; places = λ past. tt }) tt refl

  pub pull-answered : (at : End) (r : Effect × WorldState) → IsEnd n at → r.1.adopted ≡ s.world.adopted → IsPulled s.world r.1 at (is_done r.0) → (HasNoPull s.world → HasNoPull r.1) → AnsweredIn n before s (Pull at) (Some (pull_done s at r))
  pull-answered at (effect, w) there same is plan =
      alone-answered (Pull at) (PullLine at (is_done effect)) (PullSaid at (is_done effect)) (record s { world = w }) (pull_line at (is_done effect) there) (same_end-refl at) refl (λ o. refl) (λ o. refl) refl refl same (record { told = refl; lengths = tt; places = λ past. tt }) tt
      (λ still safe. pulled-fabric s.world w at (is_done effect) is) (λ still safe. plan still)

  pub plug-answered : (a b : End) (r : Effect × WorldState) → IsEnd n a → IsEnd n b → has_port (fabric_of s.world) a ≡ true → has_port (fabric_of s.world) b ≡ true → r.1.adopted ≡ s.world.adopted → IsPlugged s.world r.1 a b (words_of_plug s.world a b) → (HasNoPull s.world → HasNoPull r.1) → AnsweredIn n before s (Plug a b) (Some (plug_done s a b r))
  plug-answered a b (effect, w) one other first second same is plan =
      let words = words_of_plug s.world a b in
      let r = PlugSaid a b (is_joined words) in
      let may : may_answer (Plug a b) r ≡ true = λ i. same_end-refl a i && same_end-refl b i in
      alone-answered (Plug a b) (PlugLine a b words) r (record s { world = w }) (plug_line a b words one other) may refl (λ o. refl) (λ o. refl) refl refl same (record { told = refl; lengths = tt; places = λ past. tt }) tt
      (λ still safe. plugged-fabric s.world w a b words first second is) (λ still safe. plan still)

  pub revoke-answered : (r : List Effect × WorldState) → r.1.adopted ≡ s.world.adopted → StaysStill s.world r.1 → AnsweredIn n before s Revoke (Some (revoke_done s r))
  revoke-answered (effects, w) same quiet =
      let count = length (filter is_done effects) in
      alone-answered Revoke (Revoked count) RevokedSaid (record s { world = w }) (revoked_line count) refl refl (λ o. refl) (λ o. refl) refl refl same (record { told = refl; lengths = tt; places = λ past. tt }) tt
      (λ still safe. fabric-same s.world w (quiet still)) (λ still safe. (quiet still).plan)

  pub walk-answered : (host : ℕ) (walk : List ℤ) → IsSessionOf n s → AnsweredIn n before s (Walk host walk) (outcome s (Walk host walk))
  walk-answered host walk is =
      let k = fabric_of s.world in
      let hosts : k.hosts ≡ n.hosts = ap (λ (x : Network). x.hosts) is.first in
      let switches : k.switches ≡ n.switches = ap (λ (x : Network). x.switches) is.first in
      let at = place k host walk in
      let there = walk-in n k host walk (now_is_fabric s.world.links.cables is.history) hosts switches in
      stays-answered (Walk host walk) (WalkLine at) WalkSaid (walk_line at there) refl refl (λ o. refl) (λ o. refl) (record { told = refl; lengths = tt; places = λ past. tt }) tt refl

  pub settle-answered : AnsweredIn n before s Settle (outcome s Settle)
  settle-answered =
      let l = log.settle s.world in
      let rounds = l.value.rounds in
      let resets = min l.value.resets last_count in
      let left = unacknowledged_in l.world in
      subst (λ v. IsAnsweredBy n before s Settle (OneLine (SettleLine rounds resets left) ∷ []) (record s { world = v })) (sym (acted-settle s.world))
      (alone-answered Settle (SettleLine rounds resets left) SettleSaid (record s { world = l.world }) (settle_line rounds resets left) refl refl (λ o. refl) (λ o. refl) refl refl (settle-set s.world) (record { told = refl; lengths = tt; places = λ past. tt }) tt
      (λ still safe. fabric-same s.world l.world (settle-still s.world still)) (λ still safe. (settle-still s.world still).plan))

  pub finish-answered : AnsweredIn n before s Finish (outcome s Finish)
  finish-answered = stays-answered Finish (FinishLine s.world.injected s.world.dropped) FinishSaid (finish_line s.world.injected s.world.dropped) refl refl (λ o. refl) (λ o. refl) (record { told = refl; lengths = tt; places = λ past. tt }) tt refl

  pub busy-answered : (host depth tries : ℕ) → IsHost n host → AnsweredIn n before s (Map host depth tries) (option_map (seen s) (map_refused s.world host))
  busy-answered host depth tries there = by (is_idle s.world.links)
    where
      by : (idle : Bool) → AnsweredIn n before s (Map host depth tries) (option_map (seen s) (if idle then None else Some (says (MapBusy host ∷ []))))
      by true = tt
      by false = stays-answered (Map host depth tries) (MapBusy host) (BusySaid host) (busy_line host there) (host-same host) refl (λ o. refl) (λ o. refl) (record { told = refl; lengths = tt; places = λ past. tt }) tt refl

  -- an installation that is refused
  refused-answered : (tries : ℕ) (cause : InstallCause) → AnsweredIn n before s (Install tries) (Some (seen s (says (InstallRefused cause ∷ []))))
  refused-answered tries cause = stays-answered (Install tries) (InstallRefused cause) InstallRefusedSaid (install_refused cause) refl refl (λ o. refl) (λ o. refl) (record { told = refl; lengths = tt; places = λ past. tt }) tt refl

  -- one that is made: routes are adopted
  done-answered : (tries : ℕ) (l : LastRoutes) (r : Log ℕ) → s.last_routes ≡ Some l → HasTables l.hosts r → IsCounted (length l.hosts) → AllByRecursion (IsHost n) l.hosts → is_some r.world.adopted ≡ true → (HasNoPull s.world → fabric_of s.world ≡ fabric_of r.world) → (HasNoPull s.world → HasNoPull r.world)
      → AnsweredIn n before s (Install tries) (Some (says_in s (install_lines l.hosts r) r.world))
  done-answered tries l r are enough few all adopted fabric plan =
      let active : ℕ → Bool = λ h. is_some (active_epoch (node_at r.world h).table) in record {
        a = WithTables l.hosts;
        printed = with_tables tries r.value active l.hosts (told.routed ∙ ap (option_map (λ (x : LastRoutes). x.hosts)) are) enough few all refl;
        told = record { complete = told.complete; shown = told.shown; routed = told.routed; adopted = sym adopted };
        nothing = record { told = refl; lengths = tt; places = λ past. tt };
        maps = tt;
        routes = tt;
        fabric = λ still safe. fabric still;
        unpulled = λ still safe. plan still;
      }

  pub install-answered : (tries : ℕ) (o : Option LastRoutes) → s.last_routes ≡ o → CountsTables s tries → ((l : LastRoutes) → s.last_routes ≡ Some l → IsCounted (length l.hosts) × AllByRecursion (IsHost n) l.hosts) → AnsweredIn n before s (Install tries) (Some (seen s (install s.world tries o)))
  install-answered tries None are enough hosts = refused-answered tries NoRoutes
  install-answered tries (Some l) are enough hosts = by (is_idle s.world.links) (may_install s.world l) refl refl
    where
      by : (idle may : Bool) → is_idle s.world.links ≡ idle → may_install s.world l ≡ may → AnsweredIn n before s (Install tries) (Some (seen s (if not idle then says (InstallRefused Busy ∷ []) else if not may then says (InstallRefused (refusal_cause s.world l) ∷ []) else install_now s.world l tries)))
      by false may p q = refused-answered tries Busy
      by true false p q = refused-answered tries (refusal_cause s.world l)
      by true true p q =
          let w : WorldState = adopted_by s.world l.mapper l.routes in
          let r = installation s.world l tries in
          let there = hosts l are in
          let quiet = install-still (set_of s.world l) l.hosts tries w in
          subst (λ v. IsAnsweredBy n before s (Install tries) (lines (install_lines l.hosts r)) (record s { world = v })) (sym (acted-installation s.world l tries))
          (done-answered tries l r are (enough l are p q) there.0 there.1 (ap is_some (installed-set (set_of s.world l) l.hosts tries w))
          (λ still. sym (adopted-fabric s.world l.mapper l.routes) ∙ fabric-same w r.world (quiet still)) (λ still. (quiet still).plan))

  -- a map that is made
  pub map-answered : (host depth tries asks packets : ℕ) (m : NetMap) (words : MapWords) (began : ℕ) (after : WorldState) (out : List Piece) → IsHost n host → ((behind : List Piece) → map_pieces words m ≡ MapLines m ∷ behind → map_reading n (map_text n m) ≡ Ok m)
      → (words ≡ Complete → IsMapOfPart (fabric_of s.world) host m) → after.adopted ≡ s.world.adopted → StaysStill s.world after → out ≡ OneLine (MapLine host words asks packets) ∷ map_pieces words m
      → IsAnsweredBy n before s (Map host depth tries) out (record s { world = after; last_map = Some (record { mapper = host; words = words; made = m; began = began }) })
  map-answered host depth tries asks packets m Complete began after out there read right same quiet e = record {
    a = WithMap (MapRead host SaidComplete) m;
    printed = with_map (Map host depth tries) (MapLine host Complete asks packets) (MapRead host SaidComplete) m (map_line host Complete asks packets there) (host-same host) refl refl (read [] refl) e;
    told = record { complete = refl; shown = refl; routed = told.routed; adopted = told.adopted ∙ ap is_some (sym same) };
    nothing = record { told = refl; lengths = tt; places = λ past. tt };
    maps = right refl;
    routes = tt;
    fabric = λ still safe. fabric-same s.world after (quiet still);
    unpulled = λ still safe. (quiet still).plan;
  }
  map-answered host depth tries asks packets m (Doubtful drowned) began after out there read right same quiet e = record {
    a = WithMap (MapRead host SaidDoubtful) m;
    printed = with_map (Map host depth tries) (MapLine host (Doubtful drowned) asks packets) (MapRead host SaidDoubtful) m (map_line host (Doubtful drowned) asks packets there) (host-same host) refl refl (read [] refl) e;
    told = record { complete = refl; shown = refl; routed = told.routed; adopted = told.adopted ∙ ap is_some (sym same) };
    nothing = record { told = refl; lengths = tt; places = λ past. tt };
    maps = tt;
    routes = tt;
    fabric = λ still safe. fabric-same s.world after (quiet still);
    unpulled = λ still safe. (quiet still).plan;
  }
  map-answered host depth tries asks packets m IncompleteDepth began after out there read right same quiet e = record {
    a = WithMap (MapRead host Shallow) m;
    printed = with_map (Map host depth tries) (MapLine host IncompleteDepth asks packets) (MapRead host Shallow) m (map_line host IncompleteDepth asks packets there) (host-same host) refl refl (read [] refl) e;
    told = record { complete = refl; shown = refl; routed = told.routed; adopted = told.adopted ∙ ap is_some (sym same) };
    nothing = record { told = refl; lengths = tt; places = λ past. tt };
    maps = tt;
    routes = tt;
    fabric = λ still safe. fabric-same s.world after (quiet still);
    unpulled = λ still safe. (quiet still).plan;
  }
  map-answered host depth tries asks packets m IncompleteNodes began after out there read right same quiet e = record {
    a = Alone (MapRead host Overgrown);
    printed = alone (Map host depth tries) (MapLine host IncompleteNodes asks packets) (MapRead host Overgrown) (map_line host IncompleteNodes asks packets there) (host-same host) refl e;
    told = record { complete = refl; shown = refl; routed = told.routed; adopted = told.adopted ∙ ap is_some (sym same) };
    nothing = record { told = refl; lengths = tt; places = λ past. tt };
    maps = tt;
    routes = tt;
    fabric = λ still safe. fabric-same s.world after (quiet still);
    unpulled = λ still safe. (quiet still).plan;
  }

  -- a map of circuit links
  pub circuit-answered : (k : Network) (host depth : ℕ) (out : List Piece) → IsHost n host → IsCounted depth → ((m : NetMap) (l : Line) → out ≡ OneLine l ∷ MapLines m ∷ [] → map_reading n (map_text n m) ≡ Ok m)
      → IsCircuitTold k host depth out → IsAnsweredBy n before s (Circuit host depth) out s
  circuit-answered k host depth out there fits read (whole j m growing kept is printed) =
      let l = CircuitLine host depth (length j) in
      let may : may_answer (Circuit host depth) (CircuitSaid host depth) ≡ true = λ i. host-same host i && host-same depth i in record {
        a = WithMap (CircuitSaid host depth) m;
        printed = with_map (Circuit host depth) l (CircuitSaid host depth) m (circuit_line host depth (length j) there fits) may refl (ap (list_all (λ c. c)) is.without_outside.all_core ∙ marks-true m.vertices) (read m l printed) printed;
        told = record { complete = told.complete; shown = told.shown; routed = told.routed; adopted = told.adopted };
        nothing = record { told = refl; lengths = tt; places = λ past. tt };
        maps = tt;
        routes = tt;
        fabric = λ still safe. refl;
        unpulled = λ still safe. still;
      }
  circuit-answered k host depth out there fits read (too_many_nodes j growing passed printed) =
      let l = CircuitNodes host (length j) in
      subst (λ o. IsAnsweredBy n before s (Circuit host depth) o s) (sym printed)
      (stays-answered (Circuit host depth) l (NodesSaid host) (nodes_line host (length j) there) (host-same host) refl (λ o. refl) (λ o. refl) (record { told = refl; lengths = tt; places = λ past. tt }) tt refl)

  -- routes that are refused
  pub nomap-answered : (o : Option LastMap) → AnsweredIn n before s Routes (option_map (seen s) (routes_refused o))
  nomap-answered (Some l) = tt
  nomap-answered None = stays-answered Routes NoMap NoMapSaid no_map refl refl (λ o. refl) (λ o. refl) (record { told = refl; lengths = tt; places = λ past. tt }) tt refl

  -- routes that are computed hold on their map
  routes-true : (m : NetMap) (found : List Route) → IsMap m → AreRoutesOf m (order_of m) found → AreRoutesTrue m found (ranks_of m (order_of m))
  routes-true m found rules are = record {
    whole = are.whole;
    lead = each-leads m found are.between_hosts are.least;
    rise = ranks_certify m (order_of m) found rules (places_are_an_order m) are.least;
  }

  pub routes-answered : (l : LastMap) (found : List Route) (out : List Piece) → IsFabric n → IsSessionOf n s → complete_of s.last_map ≡ Some l → IsKept n l → AreFine n found → AreRoutesOf l.made (order_of l.made) found → out ≡ lines (routes_lines l.made found)
      → IsAnsweredBy n before s Routes out (record s { last_routes = Some (record { mapper = l.mapper; hosts = hosts_by_address s.world l.made; routes = found; began = l.began }) })
  routes-answered l found out f is complete kept fine are printed =
      let m = l.made in
      let order = order_of m in
      let few = kept.printable.few_vertices in
      let ranked = places_are_an_order m in
      let last : complete_map before ≡ Some m = told.complete ∙ ap (option_map (λ (x : LastMap). x.made)) complete in
      let hosts : hosts_in n m ≡ hosts_by_address s.world m = ap (λ k. filter (λ h. list_any (nat_eq h) (hosts_of m.vertices)) (range_with_len 0 k)) (sym (count-of n s is)) in record {
        a = WithRoutes found (ranks_of m order);
        printed = with_routes m found (ranks_of m order) (told.shown ∙ complete-shown s.last_map l complete) (routes-counted n found f fine.routes_in fine.rising) fine.routes_in (routes-rising found fine.rising)
            (ranks-in n m order kept.printable.rules kept.printable.hosts (omega arith) ranked) (ranks-rising n m order kept.printable.rules kept.printable.hosts (omega arith) ranked) printed;
        told = record {
          complete = told.complete;
          shown = told.shown;
          routed = ap (option_map (hosts_in n)) last ∙ ap Some hosts;
          adopted = told.adopted;
        };
        nothing = record { told = refl; lengths = tt; places = λ past. tt };
        maps = tt;
        routes = subst (λ o. HoldOn o found (ranks_of m order)) (sym last) (routes-true m found kept.printable.rules are);
        fabric = λ still safe. refl;
        unpulled = λ still safe. still;
      }

  -- broken routes
  pub broken-answered : (o : Option Adoption) → s.world.adopted ≡ o → ((x : Adoption) → s.world.adopted ≡ Some x → AreFine n x.routes) → AnsweredIn n before s Broken (Some (seen s (says (broken_lines s.world o))))
  broken-answered None are fine =
      stays-answered Broken NoBroken NoBrokenSaid no_broken refl (ap not (told.adopted ∙ ap is_some are)) (λ o. refl) (λ o. refl) (record { told = refl; lengths = tt; places = λ past. tt }) tt refl
  broken-answered (Some x) are fine =
      let routes = broken_routes s.world x in
      let own = fine x are in
      let pairs = map pair_of routes in record {
        a = WithBroken pairs;
        printed = with_broken pairs (told.adopted ∙ ap is_some are)
            (pairs-rising n routes (filter-rising (λ r. is_broken s.world r.from r.to) x.routes own.rising) (filter-all (IsRouteIn n) (λ r. is_broken s.world r.from r.to) x.routes own.routes_in))
            (ap (λ ls. lines (ls ++ EndBroken ∷ [])) (broken-pairs routes));
        told = record { complete = told.complete; shown = told.shown; routed = told.routed; adopted = told.adopted };
        nothing = record { told = refl; lengths = tt; places = λ past. tt };
        maps = tt;
        routes = tt;
        fabric = λ still safe. refl;
        unpulled = λ still safe. still;
      }
