-- What the lines of a command say is true, in the session that a run of commands over a fabric led to.
use Rattle.std.proofs.Common.{◌≡◌, ◌<◌, ◌≤◌, ◌-◌, ℕ, Bool, true, false, List, [], ◌∷◌, ◌++◌, length, Option, Some, None, option_map, Ok, refl, sym, ap, subst, ◌∙◌, arith, append_assoc, if◌then◌else◌}
use Rattle.std.specs.List.{AllByRecursion}
use Rattle.net_defs.specs.declared.vertex.End.{End}
use Rattle.net_defs.specs.Network.{Network, IsFabric}
use Rattle.net_defs.proofs.Distinct.{all-weaker, all-push}
use Rattle.world_defs.proofs.Now.{now_is_fabric}
use Rattle.map_defs.specs.NetMap.{NetMap}
use Rattle.map_defs.specs.Sameness.{IsMapOfPart}
use Rattle.world_defs.specs.Links.{is_idle}
use Rattle.journal_defs.specs.declared.entry.Entry.{Entry}
use Rattle.circ_defs.specs.CircuitMap.{IsCircuitMap}
use Rattle.circ_laws.proofs.Numbering.{circuit_map_is_core}
use Rattle.duo_defs.specs.declared.event.DuoEvent.TheVariants.{Poll as DuoPoll}
use Rattle.world_defs.specs.World.{WorldState, fabric_of, last_count}
use Rattle.world_defs.specs.Settle.{unacknowledged_in}
use Rattle.world_defs.specs.Logs.{settle}
use Rattle.settle_laws.specs.Premises.{CanSettle}
use Rattle.run_defs.specs.declared.command.Command.{Command}
use Rattle.run_defs.specs.declared.command.Command.TheVariants.{Map, Circuit, Routes, Install, Settle, Duo, Pull, Plug, Revoke}
use Rattle.run_defs.specs.declared.line.Line.{Line}
use Rattle.run_defs.specs.declared.line.Line.TheVariants.{Map as MapLine, MapBusy, Circuit as CircuitLine, Settle as SettleLine}
use Rattle.run_defs.specs.declared.line.MapWords.{MapWords}
use Rattle.run_defs.specs.declared.line.MapWords.TheVariants.{Complete, Doubtful}
use Rattle.run_defs.specs.Circuit.{IsCircuitTold}
use Rattle.run_defs.specs.Circuit.IsCircuitTold.{whole, too_many_nodes}
use Rattle.run_defs.specs.Mapped.{IsMapped}
use Rattle.run_defs.specs.LineText.{map_text}
use Rattle.run_defs.specs.Deed.{says}
use Rattle.run_defs.specs.Outcome.{Outcome, seen, outcome}
use Rattle.run_defs.specs.Output.{Piece, OneLine, MapLines}
use Rattle.run_defs.specs.Session.{SessionState}
use Rattle.run_defs.specs.Run.{Does, IsRun, map_pieces}
use Rattle.run_defs.proofs.Doing.{Doing, doing}
use Rattle.run_defs.proofs.Doing.Doing.{determined, maps, circuits, routes}
use Rattle.run_defs.specs.Headline.{FitsFabric, HasPrinted}
use Rattle.map_canon.specs.Reading.{map_reading}
use Rattle.fabric_file.specs.Reading.{AreNamed}
use Rattle.fab_script.specs.Ranges.{IsCommandOf}
use Rattle.run_laws.specs.Acts.{IsActOf}
use Rattle.run_laws.proofs.Reaching.{run_is_reached}
use Rattle.run_laws.proofs.RunsOnce.{runs-more}
use Rattle.mapping_laws.specs.Runs.{IsSessionOf}
use Rattle.mapping_laws.proofs.Made.{made_map_is_right, doubtful_was_harmed}
use Rattle.mapping_laws.proofs.Sessions.{can-map-now, run_keeps_world}
use Rattle.print_laws.specs.Shown.{IsPrintedAfter}
use Rattle.print_laws.proofs.Shown.{mapping-of, printed_maps_stand}
use Rattle.print_laws.proofs.Marks.{marks_are_right}
use Rattle.print_laws.proofs.Pieces.{maps_of_runs_read_back}
use Rattle.print_laws.proofs.Routes.{printed_routes_are_right}
use Rattle.run_laws.proofs.InstallLines.{line-true}
use Rattle.run_laws.specs.SettleLines.{IsSettledLine}
use Rattle.run_laws.proofs.SettleLines.{run-can_settle, line-true as settled-true}
use Rattle.delivery_laws.specs.Delivery.{HasEnough, HasPaths}
use Rattle.delivery_laws.proofs.Delivered.{settle-delivers}
use Rattle.promise_laws.specs.CableLines.{IsPlugTold}
use Rattle.promise_laws.proofs.Duos.{duo_polls_are_right}
use Rattle.promise_laws.proofs.Pulls.{pull_line-true}
use Rattle.promise_laws.proofs.Plugs.{plug_line-true}
use Rattle.promise_laws.proofs.Revoking.{revoked_line-true}
use Rattle.promise_laws.proofs.Said.{said-command, said-act}
use Rattle.promise_laws.proofs.Sound.{always_promised}
use Rattle.fabric_run.specs.Ends.{HasVerticesOf}
use Rattle.fabric_run.specs.Lines.{WasStruck, IsMapTrue, IsMapTold, IsCircuitRight, IsPollRight, IsSettleRight, AreLinesTrue}
use Rattle.fabric_run.proofs.Naming.{command-named}

-- a map of idle links that must say complete prints so, and then its lines
print-so : {s next : SessionState} {c : Command} {out : List Piece} → (host depth tries : ℕ) → c ≡ Map host depth tries → is_idle s.world.links ≡ true
    → ((j : List Entry) (m : NetMap) (words : MapWords) → IsMapped host depth tries s.world next.world j m words → words ≡ Complete)
    → Doing s c out next → (m : NetMap) × HasPrinted out host m
print-so {s = s} {next = next} {out = out} host depth tries same idle says_so (determined e) =
    let none : outcome s (Map host depth tries) ≡ None = ap (λ b. option_map (seen s) (if b then None else Some (says (MapBusy host ∷ [])))) idle in
    let got : Outcome = record { output = out; after = next } in
    let bad : None ≡ Some got = sym none ∙ sym (ap (outcome s) same) ∙ e in
    cc
print-so {s = s} {next = next} {out = out} host depth tries same idle says_so (maps {host = h} {depth = d} {tries = t} after j m words calm made printed left) =
    let at : h ≡ host = cc in
    let deep : d ≡ depth = cc in
    let tried : t ≡ tries = cc in
    let world : after ≡ next.world = sym (ap (λ (x : SessionState). x.world) left) in
    let here : IsMapped host depth tries s.world next.world j m words =
    subst (λ w. IsMapped host depth tries s.world w j m words) world
    (subst (λ k. IsMapped host depth k s.world after j m words) tried
    (subst (λ k. IsMapped host k t s.world after j m words) deep
    (subst (λ k. IsMapped k d t s.world after j m words) at made))) in
    let word : words ≡ Complete = says_so j m words here in
    let packets : ℕ = after.injected - s.world.injected in (
      m,
      record {
        before = [];
        behind = [];
        asks = length j;
        packets = packets;
        there = printed ∙ ap (λ k. OneLine (MapLine k words (length j) packets) ∷ map_pieces words m) at ∙ ap (λ x. OneLine (MapLine host x (length j) packets) ∷ map_pieces x m) word;
      },
    )
print-so {s = s} host depth tries same idle says_so (circuits told left) = cc
print-so {s = s} host depth tries same idle says_so (routes l found complete are printed left) = cc

-- what a determined command prints
abbrev output-of : Option Outcome → List Piece
output-of None = []
output-of (Some o) = o.output

doubt-so : {s next : SessionState} {c : Command} {out : List Piece} → (n : Network) (host depth tries drowned asks packets : ℕ) (rest : List Piece) → FitsFabric n c → IsSessionOf n s → c ≡ Map host depth tries → 1 ≤ tries
    → out ≡ OneLine (MapLine host (Doubtful drowned) asks packets) ∷ rest → next.world.injected < last_count → Doing s c out next → WasStruck s.world next.world
doubt-so {s = s} {next = next} {out = out} n host depth tries drowned asks packets rest of_n session same some says_so left (determined e) = by (is_idle s.world.links) refl
  where
    got : Outcome
    got = record { output = out; after = next }

    now : outcome s (Map host depth tries) ≡ Some got
    now = sym (ap (outcome s) same) ∙ e

    by : (idle : Bool) → is_idle s.world.links ≡ idle → WasStruck s.world next.world
    by true i =
        let none : outcome s (Map host depth tries) ≡ None = ap (λ b. option_map (seen s) (if b then None else Some (says (MapBusy host ∷ [])))) i in
        let bad : None ≡ Some got = sym none ∙ now in
        cc
    by false i =
        let busy : outcome s (Map host depth tries) ≡ Some (seen s (says (MapBusy host ∷ []))) = ap (λ b. option_map (seen s) (if b then None else Some (says (MapBusy host ∷ [])))) i in
        let bad : OneLine (MapBusy host) ∷ [] ≡ OneLine (MapLine host (Doubtful drowned) asks packets) ∷ rest = ap output-of (sym busy ∙ now) ∙ says_so in
        cc
doubt-so {s = s} {next = next} n host depth tries drowned asks packets rest of_n session same some says_so left (maps {host = h} {depth = d} {tries = t} after j m words calm made printed last) =
    let tried : t ≡ tries = cc in
    let world : after ≡ next.world = sym (ap (λ (x : SessionState). x.world) last) in
    let both : OneLine (MapLine h words (length j) (after.injected - s.world.injected)) ∷ map_pieces words m ≡ OneLine (MapLine host (Doubtful drowned) asks packets) ∷ rest = sym printed ∙ says_so in
    let called : words ≡ Doubtful drowned = cc in
    let here : IsMapped h d t s.world next.world j m (Doubtful drowned) = subst (λ w. IsMapped h d t s.world w j m (Doubtful drowned)) world (subst (λ x. IsMapped h d t s.world after j m x) called made) in
    doubtful_was_harmed h d t drowned s.world next.world j m (can-map-now n s h d t of_n session calm) here (omega (arith, some, tried)) left
doubt-so n host depth tries drowned asks packets rest of_n session same some says_so left (circuits told last) = cc
doubt-so n host depth tries drowned asks packets rest of_n session same some says_so left (routes l found complete are printed last) = cc

-- a settle with tokens enough before it
settle-leaves-none : (s next : SessionState) (rounds resets unacked : ℕ) → CanSettle s.world → IsSettledLine s next rounds resets unacked → next.world.injected < last_count → HasEnough s.world → HasPaths s.world next.world → unacked ≡ 0
settle-leaves-none s next rounds resets unacked can line left enough paths =
    let w : WorldState = s.world in
    let after : next.world ≡ (settle w).world = line.after in
    let low : (settle w).world.injected < last_count = subst (λ (v : WorldState). v.injected < last_count) after left in
    let all = settle-delivers w can low enough (subst (HasPaths w) after paths) in
    line.left ∙ ap unacknowledged_in after ∙ all.0

-- a session of a run has the hosts and switches of the fabric that it began with
session-vertices : (n : Network) (s : SessionState) → IsSessionOf n s → HasVerticesOf n s
session-vertices n s is = (ap (λ (x : Network). x.hosts) is.first, ap (λ (x : Network). x.switches) is.first)

-- a map of circuit links that a command prints
circuit-so : {s next : SessionState} {out : List Piece} → (host depth : ℕ) → Doing s (Circuit host depth) out next → IsCircuitTold (fabric_of s.world) host depth out
circuit-so host depth (determined e) = cc
circuit-so host depth (circuits told left) = told

circuit-map : (n : Network) (host depth asks : ℕ) (m : NetMap) (out : List Piece) → out ≡ OneLine (CircuitLine host depth asks) ∷ MapLines m ∷ [] → IsCircuitTold n host depth out → (j : List Entry) × IsCircuitMap n host depth j m
circuit-map n host depth asks m out same (whole j k growing kept is printed) =
    let one : k ≡ m = cc in
    (j, subst (IsCircuitMap n host depth j) one is)
circuit-map n host depth asks m out same (too_many_nodes j growing passed printed) = cc

module _ (n : Network) (cs : List Command) (before : List Piece) (s : SessionState) (fabric : IsFabric n) (named : AreNamed n) (said : AllByRecursion (IsCommandOf n) cs) (ran : IsRun n cs before s) where
  abbrev commands : AllByRecursion (FitsFabric n) cs
  commands = all-weaker (IsCommandOf n) (FitsFabric n) cs (said-command n) said

  abbrev acts : AllByRecursion (IsActOf n) cs
  acts = all-weaker (IsCommandOf n) (IsActOf n) cs (said-act n) said

  abbrev session : IsSessionOf n s
  session = run_keeps_world n cs before s fabric commands ran

  -- a map that is printed after the run
  abbrev printed-after : (next : SessionState) (host depth tries : ℕ) (words : MapWords) (asks packets : ℕ) (m : NetMap) → IsCommandOf n (Map host depth tries)
      → Does s (Map host depth tries) (OneLine (MapLine host words asks packets) ∷ MapLines m ∷ []) next → IsPrintedAfter n cs host words m
  printed-after next host depth tries words asks packets m is does = record {
    over = commands;
    out = before;
    session = s;
    run = ran;
    depth = depth;
    tries = tries;
    of_fabric = said-command n (Map host depth tries) is;
    next = next;
    prints = record { asks = asks; packets = packets; does = does };
  }

  -- its lines are read as it
  read-back : (next : SessionState) (c : Command) (printed : List Piece) (l : Line) (m : NetMap) → IsCommandOf n c → printed ≡ OneLine l ∷ MapLines m ∷ [] → Does s c printed next → map_reading n (map_text n m) ≡ Ok m
  read-back next c printed l m is same does =
      (maps_of_runs_read_back n (cs ++ c ∷ []) (before ++ printed) next (before ++ OneLine l ∷ []) [] m fabric named (all-push (FitsFabric n) cs c commands (said-command n c is)) (runs-more c printed ran does)
      (ap (λ o. before ++ o) same ∙ sym (append_assoc before (OneLine l ∷ []) (MapLines m ∷ [])))).read

  -- and a complete one was the mapper's part
  part-true : (next : SessionState) (host depth tries asks packets : ℕ) (m : NetMap) → IsCommandOf n (Map host depth tries) → Does s (Map host depth tries) (OneLine (MapLine host Complete asks packets) ∷ MapLines m ∷ []) next
      → IsMapOfPart (fabric_of s.world) host m
  part-true next host depth tries asks packets m is does =
      let a = mapping-of n cs host Complete m fabric (printed-after next host depth tries Complete asks packets m is does) in
      subst (λ k. IsMapOfPart k host m) a.fabric (made_map_is_right host a.depth a.tries a.before a.after a.journal m a.can a.mapped)

  map-true : (next : SessionState) (host depth tries : ℕ) (printed : List Piece) (words : MapWords) (asks packets : ℕ) (m : NetMap) → IsCommandOf n (Map host depth tries) → Does s (Map host depth tries) printed next
      → printed ≡ OneLine (MapLine host words asks packets) ∷ MapLines m ∷ [] → IsMapTrue n s next host words m
  map-true next host depth tries printed words asks packets m is does same =
      let out : MapWords → List Piece = λ w. OneLine (MapLine host w asks packets) ∷ MapLines m ∷ [] in
      let now : Does s (Map host depth tries) (out words) next = subst (λ o. Does s (Map host depth tries) o next) same does in
      let so : (w : MapWords) → words ≡ w → Does s (Map host depth tries) (out w) next = λ w e. subst (λ x. Does s (Map host depth tries) (out x) next) e now in
      record {
        stands = printed_maps_stand n cs host words m fabric (printed-after next host depth tries words asks packets m is now);
        read_back = read-back next (Map host depth tries) printed (MapLine host words asks packets) m is same does;
        part = λ e. part-true next host depth tries asks packets m is (so Complete e);
        marks = λ e there v low. marks_are_right n cs host m fabric (printed-after next host depth tries Complete asks packets m is (so Complete e)) there v low;
        doubt = λ drowned e left.
            doubt-so n host depth tries drowned asks packets (MapLines m ∷ []) (said-command n (Map host depth tries) is) session refl is.2.0 (same ∙ ap out e) left (doing does);
      }

  map-told : (next : SessionState) (host depth tries : ℕ) (printed : List Piece) → IsCommandOf n (Map host depth tries) → Does s (Map host depth tries) printed next → IsMapTold n s next host depth printed
  map-told next host depth tries printed is does = record {
    shown = λ words asks packets m same. map-true next host depth tries printed words asks packets m is does same;
    deep = λ quiet enough.
        print-so host depth tries refl quiet.idle
        (λ j m words made. (always_promised n cs fabric).deep before s host depth tries next.world j m words fabric commands ran (said-command n (Map host depth tries) is) made quiet is.2.0 is.2.1 enough) (doing does);
  }

  circuit-right : (next : SessionState) (host depth : ℕ) (printed : List Piece) → IsCommandOf n (Circuit host depth) → Does s (Circuit host depth) printed next → IsCircuitRight n (fabric_of s.world) host depth printed
  circuit-right next host depth printed is does =
      let now : Network = fabric_of s.world in
      let told : IsCircuitTold now host depth printed = circuit-so host depth (doing does) in
      record {
        told = told;
        shown = λ asks m same.
            let t = circuit-map now host depth asks m printed same told in
            record {
              core = λ es paths deep. circuit_map_is_core now host depth t.0 es m (now_is_fabric s.world.links.cables session.history) paths deep t.1;
              read_back = read-back next (Circuit host depth) printed (CircuitLine host depth asks) m is same does;
            };
      }

  settle-right : (next : SessionState) (rounds resets unacked : ℕ) (rest : List Piece) → Does s Settle (OneLine (SettleLine rounds resets unacked) ∷ rest) next → IsSettleRight s next rounds resets unacked
  settle-right next rounds resets unacked rest does =
      let line : IsSettledLine s next rounds resets unacked = settled-true n cs before rest s next rounds resets unacked fabric acts ran does in
      record { line = line; delivers = λ left enough paths. settle-leaves-none s next rounds resets unacked (run-can_settle n cs before s fabric acts ran).1 line left enough paths }

  poll-right : (next : SessionState) (x : ℕ) (printed : List Piece) → Does s (Duo (DuoPoll x)) printed next → IsPollRight s x printed
  poll-right next x printed does = record {
    sent = λ t same. (duo_polls_are_right n cs before s next x t said ran).0 (subst (λ o. Does s (Duo (DuoPoll x)) o next) same does);
    unsure = λ t same. (duo_polls_are_right n cs before s next x t said ran).1 (subst (λ o. Does s (Duo (DuoPoll x)) o next) same does);
  }

  plug-told : (next : SessionState) (p q : End) (printed : List Piece) → IsCommandOf n (Plug p q) → Does s (Plug p q) printed next → IsPlugTold s next p q printed
  plug-told next p q printed is does =
      let ports : IsCommandOf (fabric_of s.world) (Plug p q) = command-named n s (Plug p q) (session-vertices n s session) is in
      plug_line-true s next p q printed ports.0 ports.1 does

  pub lines-true : (c : Command) (printed : List Piece) (next : SessionState) → IsCommandOf n c → Does s c printed next → AreLinesTrue n s c printed next
  lines-true (Map host depth tries) printed next is does = map-told next host depth tries printed is does
  lines-true (Circuit host depth) printed next is does = circuit-right next host depth printed is does
  lines-true Routes printed next is does = printed_routes_are_right n cs before printed s next fabric commands ran does
  lines-true (Install tries) printed next is does =
      λ acked total rest same. (is.0, line-true n cs before rest s next tries acked total fabric acts ran (subst (λ o. Does s (Install tries) o next) same does))
  lines-true Settle printed next is does = λ rounds resets unacked rest same. settle-right next rounds resets unacked rest (subst (λ o. Does s Settle o next) same does)
  lines-true (Pull at) printed next is does = pull_line-true s next at printed does
  lines-true (Plug p q) printed next is does = plug-told next p q printed is does
  lines-true Revoke printed next is does = revoked_line-true n s next printed (run_is_reached n cs before s fabric acts ran) does
  lines-true (Duo (DuoPoll x)) printed next is does = poll-right next x printed does
  lines-true _ printed next is does = tt
