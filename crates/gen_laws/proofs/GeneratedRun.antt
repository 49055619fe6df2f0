-- The run of a generated text: its map is complete, its routes are installed on all hosts, all its messages are sent, and come; so its summary has six lines.
use Rattle.std.proofs.Common.{◌≡◌, ◌≤◌, ◌<◌, ◌+◌, ◌*◌, ◌-◌, ℕ, suc, List, [], ◌∷◌, ◌++◌, map, length, length-append, replicate, Option, Ok, refl, sym, ap, ◌∙◌, subst, arith}
use Rattle.std.specs.Prelude.{flat_map, drop}
use Rattle.std.specs.List.{AllByRecursion, count_by}
use Rattle.std.proofs.lemmas.Grind.{flat_map-append}
use Rattle.std.proofs.lemmas.List.{length-map, append-nil}
use Rattle.std.proofs.lemmas.List.FromFn.{length-range_with_len}
use Rattle.std.proofs.lemmas.List.Sums.{length-filter}
use Rattle.net_defs.specs.Network.{Network}
use Rattle.net_defs.proofs.Distinct.{all-weaker}
use Rattle.journal_defs.proofs.Members.{all-join}
use Rattle.world_defs.specs.Acts.{IsReached}
use Rattle.world_defs.specs.Client.{ClientState}
use Rattle.world_defs.specs.Logs.{settle}
use Rattle.world_defs.specs.Node.{NodeState}
use Rattle.world_defs.specs.Settle.{unacknowledged_in}
use Rattle.world_defs.specs.World.{WorldState, last_count}
use Rattle.message_laws.proofs.HostTickets.{all-front}
use Rattle.run_defs.specs.declared.command.Command.{Command}
use Rattle.run_defs.specs.declared.command.Command.TheVariants.{Map, Routes, Install, Plan, Settle, Finish}
use Rattle.run_defs.specs.declared.command.PlanKind.TheVariants.{Lose, Hold, Repeat}
use Rattle.run_defs.specs.declared.figure.Figure.{Figure}
use Rattle.run_defs.specs.declared.figure.Figure.TheVariants.{Mapped, Installed as FigureInstalled, Routed, Accepted, Received, Settled}
use Rattle.run_defs.specs.declared.line.Line.TheVariants.{Routes as RoutesLine, Installed as InstalledLine, Settle as SettleLine, GenHead, GenMap, GenCount}
use Rattle.run_defs.specs.declared.line.MapWords.TheVariants.{Complete}
use Rattle.run_defs.specs.Output.{Piece}
use Rattle.run_defs.specs.Run.{Does, Runs, IsRun}
use Rattle.run_defs.specs.Run.Runs.{ended, goes_on}
use Rattle.run_defs.specs.Session.{SessionState, new_session}
use Rattle.run_defs.specs.Summary.{figures_in, mapping_lines, settle_lines, is_accepted, is_received, count_line, summary}
use Rattle.run_defs.proofs.Doing.{doing}
use Rattle.run_laws.specs.Acts.{IsActOf}
use Rattle.run_laws.proofs.Reaching.{run_is_reached}
use Rattle.run_laws.proofs.RunsOnce.{runs-join}
use Rattle.run_laws.proofs.SettleLines.{run-can_settle}
use Rattle.injection_bounds.proofs.Running.{runs-inject-few}
use Rattle.fab_script.specs.Ranges.{IsCommandOf}
use Rattle.fab_script.proofs.Ranged.{reading_ranged}
use Rattle.promise_laws.proofs.RunActs.{runs_are_their_acts}
use Rattle.promise_laws.proofs.Said.{said-act}
use Rattle.fabric_gen.specs.Text.{below, depth, gen_text}
use Rattle.input_texts.specs.Generated.{chain_switch, chain_cable, link_cable, gen_fabric, gen_commands, mapping_commands, open_commands, message_commands, commands_of, client_commands, settle_commands, poll_commands, script_start, IsAccepted}
use Rattle.input_texts.proofs.Accepting.{each-accepted}
use Rattle.gen_laws.proofs.Beginning.{begins}
use Rattle.gen_laws.proofs.Calling.{Ready}
use Rattle.gen_laws.proofs.Hosts.{Hosts}
use Rattle.gen_laws.proofs.Opening.{Opening}
use Rattle.delivery_laws.proofs.Counts.{count_of}
use Rattle.gen_laws.proofs.Counts.{count-append, count-all, count-none, messages, messages-long}
use Rattle.gen_laws.proofs.Delivering.{IsDelivered, is-delivered}
use Rattle.gen_laws.proofs.Polling.{Polling, polls-first}
use Rattle.gen_laws.proofs.Steady.{IsUncalled, IsSteady}
use Rattle.gen_laws.specs.Summary.{HasSixLines}
use Rattle.gen_laws.proofs.Acting.{HoldsOfLogs, HoldsOf, runs-acts}
use Rattle.gen_laws.proofs.Calls.{Leaves, figures-both, opens-run, sends-run, same-commands, plans-one, polls-run}
use Rattle.gen_laws.proofs.Chains.{IsMappedWhole, each-mapped_whole}
use Rattle.gen_laws.proofs.Figures.{AreParts, parts-of, IsFirst, first-of, counted-many, settle-figures, finish-figures}
use Rattle.gen_laws.proofs.FirstCommands.{IsFirstMap, first-map, IsRouted, routed, IsInstalled, installed-all}

all-back : {X : Type 0} (P : X → Type 0) (xs ys : List X) → AllByRecursion P (xs ++ ys) → AllByRecursion P ys
all-back P [] ys all = all
all-back P (x ∷ xs) ys all = all-back P xs ys all.1

all-flat : {X Y : Type 0} (P : Y → Type 0) (f : X → List Y) → ((x : X) → AllByRecursion P (f x)) → (xs : List X) → AllByRecursion P (flat_map f xs)
all-flat P f all [] = tt
all-flat P f all (x ∷ xs) = all-join P (f x) (flat_map f xs) (all x) (all-flat P f all xs)

flat-few : {X Y : Type 0} (f : X → List Y) → ((x : X) → length (f x) ≤ 8) → (xs : List X) → length (flat_map f xs) ≤ 8 * length xs
flat-few f few [] = omega arith
flat-few f few (x ∷ xs) =
    let one = few x in
    let rest = flat-few f few xs in
    let both = length-append (f x) (flat_map f xs) in
    omega (arith, one, rest, both)

clients-few : (n seed : ℕ) → length (client_commands n seed) ≤ 16 * n
clients-few n seed =
    let two : 2 ≤ 8 = omega arith in
    let eight : 8 ≤ 8 = omega arith in
    let opens = flat-few open_commands (λ i. two) (below n) in
    let calls = flat-few (commands_of n seed) (λ i. eight) (below n) in
    let both = length-append (flat_map open_commands (below n)) (flat_map (commands_of n seed) (below n)) in
    let count : length (below n) ≡ n = length-range_with_len 0 n in
    omega (arith, opens, calls, both, count)

-- none of their acts polls, pulls or plugs
steady-logs : HoldsOfLogs IsSteady
steady-logs = record {
  asks = record { advance = λ c. tt; inject = λ h. tt; give_up = λ h. tt };
  ask = λ h walk looped. tt;
  part = λ dst part. tt;
  settles = record { clears = record { advance = λ c. tt; reset = λ c. tt }; inject = λ h. tt; replay = λ s. tt; expire = λ h peer. tt; give_up = λ h. tt };
  adopts = λ mapper rs. tt;
}

uncalled-logs : HoldsOfLogs IsUncalled
uncalled-logs = record {
  asks = record { advance = λ c. tt; inject = λ h. tt; give_up = λ h. tt };
  ask = λ h walk looped. tt;
  part = λ dst part. tt;
  settles = record { clears = record { advance = λ c. tt; reset = λ c. tt }; inject = λ h. tt; replay = λ s. tt; expire = λ h peer. tt; give_up = λ h. tt };
  adopts = λ mapper rs. tt;
}

clients-steady : (n seed : ℕ) → AllByRecursion (HoldsOf IsSteady) (client_commands n seed)
clients-steady n seed =
    all-join (HoldsOf IsSteady) (flat_map open_commands (below n)) (flat_map (commands_of n seed) (below n)) (all-flat (HoldsOf IsSteady) open_commands (λ i. (tt, (tt, tt))) (below n))
    (all-flat (HoldsOf IsSteady) (commands_of n seed) (λ i. all-flat (HoldsOf IsSteady) (message_commands n seed i) (λ m. (tt, (tt, tt))) (below 4)) (below n))

-- the three plans
abbrev plans : List Command
plans = Plan 1 Lose ∷ Plan 2 Hold ∷ Plan 3 Repeat ∷ []

plans-run : {n : ℕ} {P : ℕ → NodeState → List (Option ClientState) → Type 0} {s last : SessionState} {out : List Piece} → Hosts n P s.world → Runs s plans out last → Leaves n P last out []
plans-run is (goes_on {out = first} {rest = later} x (goes_on {out = second} {rest = last} y (goes_on {out = third} z ended c) b) a) =
    let one = plans-one 1 Lose is x in
    let two = plans-one 2 Hold one.hosts y in
    let three = plans-one 3 Repeat two.hosts z in
    record { hosts = three.hosts; printed = figures-both first later [] [] a one.printed (figures-both second last [] [] b two.printed (figures-both third [] [] [] c three.printed refl)) }

-- ---- the figures of the whole run, and the six lines that they give
abbrev these : ℕ → ℕ → ℕ → ℕ → ℕ → List Figure
these n asks packets rounds resets =
    Mapped Complete asks packets ∷ Routed (n * (n - 1)) ∷ FigureInstalled n n ∷ (replicate (4 * n) Accepted ++ (Settled rounds resets 0 ∷ replicate (4 * n) Received))

these-mapping : (n asks packets rounds resets : ℕ) → flat_map mapping_lines (these n asks packets rounds resets) ≡ GenMap Complete asks packets ∷ RoutesLine (n * (n - 1)) ∷ InstalledLine n n ∷ []
these-mapping n asks packets rounds resets =
    let sent = counted-many Accepted (4 * n) refl refl in
    let came = counted-many Received (4 * n) refl refl in
    ap (λ ls. GenMap Complete asks packets ∷ RoutesLine (n * (n - 1)) ∷ InstalledLine n n ∷ ls)
    (flat_map-append mapping_lines (replicate (4 * n) Accepted) (Settled rounds resets 0 ∷ replicate (4 * n) Received) ∙ (λ i. sent.mapping i ++ came.mapping i))

these-settling : (n asks packets rounds resets : ℕ) → flat_map settle_lines (these n asks packets rounds resets) ≡ SettleLine rounds resets 0 ∷ []
these-settling n asks packets rounds resets =
    let sent = counted-many Accepted (4 * n) refl refl in
    let came = counted-many Received (4 * n) refl refl in
    flat_map-append settle_lines (replicate (4 * n) Accepted) (Settled rounds resets 0 ∷ replicate (4 * n) Received) ∙ (λ i. sent.settling i ++ (SettleLine rounds resets 0 ∷ came.settling i))

first-alone : (a b k : ℕ) → a ≡ k → b ≡ 0 → a + b ≡ k
first-alone a b k one none = omega (arith, one, none)

last-alone : (a b k : ℕ) → a ≡ 0 → b ≡ k → a + b ≡ k
last-alone a b k none one = omega (arith, none, one)

these-count : (n asks packets rounds resets : ℕ) → count_line (these n asks packets rounds resets) ≡ GenCount (4 * n) (4 * n)
these-count n asks packets rounds resets =
    let fs : List Figure = these n asks packets rounds resets in
    let last : List Figure = Settled rounds resets 0 ∷ replicate (4 * n) Received in
    let sent : count_by is_accepted fs ≡ 4 * n =
    sym (length-filter is_accepted fs) ∙ count-append is_accepted (replicate (4 * n) Accepted) last
    ∙ first-alone (count_of is_accepted (replicate (4 * n) Accepted)) (count_of is_accepted last) (4 * n) (count-all is_accepted Accepted (4 * n) refl) (count-none is_accepted Received (4 * n) refl) in
    let came : count_by is_received fs ≡ 4 * n =
    sym (length-filter is_received fs) ∙ count-append is_received (replicate (4 * n) Accepted) last
    ∙ last-alone (count_of is_received (replicate (4 * n) Accepted)) (count_of is_received last) (4 * n) (count-none is_received Accepted (4 * n) refl) (count-all is_received Received (4 * n) refl) in
    λ i. GenCount (sent i) (came i)

-- the counts of the fabric
switches-long : (n : ℕ) → length (gen_fabric n).switches ≡ n
switches-long n = length-map (below n) chain_switch ∙ length-range_with_len 0 n

cables-long : (n : ℕ) → 1 ≤ n → length (gen_fabric n).cables ≡ n + n - 1
cables-long n some =
    let both = length-append (map chain_cable (below (n - 1))) (map link_cable (below n)) in
    let chain : length (map chain_cable (below (n - 1))) ≡ n - 1 = length-map (below (n - 1)) chain_cable ∙ length-range_with_len 0 (n - 1) in
    let links : length (map link_cable (below n)) ≡ n = length-map (below n) link_cable ∙ length-range_with_len 0 n in
    omega (arith, both, chain, links, some)

six-lines : (n seed asks packets rounds resets : ℕ) (figures : List Figure) → 1 ≤ n → length (gen_fabric n).hosts ≡ n → figures ≡ these n asks packets rounds resets → HasSixLines n seed (gen_fabric n) figures
six-lines n seed asks packets rounds resets figures some hosts is =
    let mapping = these-mapping n asks packets rounds resets in
    let count = these-count n asks packets rounds resets in
    let settling = these-settling n asks packets rounds resets in
    let switches = switches-long n in
    let cables = cables-long n some in
    record {
      asks = asks;
      packets = packets;
      rounds = rounds;
      resets = resets;
      are = ap (summary n seed (gen_fabric n)) is ∙ (λ i. GenHead n seed (hosts i) (switches i) (cables i) ∷ (mapping i ++ (count i ∷ settling i)));
    }

-- ---- the run
three-more : (count : ℕ) → count ≤ 397 → suc (suc (suc count)) ≤ 400
three-more count few = omega (arith, few)

both-few : (clients all n : ℕ) → clients ≤ 16 * n → n ≤ 24 → all ≡ clients + 4 → all ≤ 397
both-few clients all n low few both = omega (arith, low, few, both)

-- after the first commands the hosts are as they begin
begun-hosts : (n seed : ℕ) (two : 2 ≤ n) (k : IsMappedWhole n) {out printed : List Piece} {s : SessionState} → AllByRecursion (IsCommandOf (gen_fabric n)) (mapping_commands n) → IsRun (gen_fabric n) (mapping_commands n) out s → IsInstalled n printed s
    → Hosts n (Opening n seed 0 0) s.world
begun-hosts n seed two k {out = out} {s = s} said run installed =
    let g : Network = gen_fabric n in
    let acts = all-weaker (IsCommandOf g) (IsActOf g) (mapping_commands n) (said-act g) said in
    let r = runs_are_their_acts g (mapping_commands n) out s k.fabric acts run in
    begins g n seed s.world r.reached k.count (subst (AllByRecursion IsUncalled) (sym r.same) (runs-acts IsUncalled uncalled-logs (tt, (tt, (tt, tt))) run)) installed.routed

-- all ports are open, and nothing is sent yet
ready-hosts : {n seed : ℕ} {w : WorldState} → Hosts n (Opening n seed n n) w → Hosts n (Ready n seed [] []) w
ready-hosts is = record { count = is.count; rows = is.rows; each = λ h low. let o = is.each h low in record { plain = o.plain; sends = o.sends low; takes = o.takes low } }

module _ (n seed : ℕ) (two : 2 ≤ n) (few : n ≤ 24) (k : IsMappedWhole n) where
  abbrev fabric : Network
  fabric = gen_fabric n

  -- the calls of the clients
  calls-run : {s last : SessionState} {out : List Piece} → Hosts n (Opening n seed 0 0) s.world → Runs s (client_commands n seed) out last → Leaves n (Ready n seed (messages n) (messages n)) last out (replicate (4 * n) Accepted)
  calls-run {s = s} {last = last} {out = out} is r =
      let p : AreParts s last (flat_map open_commands (below n)) (flat_map (commands_of n seed) (below n)) out = parts-of (flat_map open_commands (below n)) (flat_map (commands_of n seed) (below n)) r in
      let opened = opens-run n seed 0 n (omega arith) is p.before in
      let sent = sends-run n seed [] (messages n) two few refl (ready-hosts opened.hosts) (subst (λ cs. Runs p.middle cs p.rest last) (same-commands n seed (below n)) p.behind) in
      record { hosts = sent.hosts; printed = figures-both p.out p.rest [] (replicate (length (messages n)) Accepted) p.whole opened.printed sent.printed ∙ ap (λ m. replicate m Accepted) (messages-long n) }

  -- the commands up to the settle
  abbrev first_part : List Command
  first_part = mapping_commands n ++ (client_commands n seed ++ (plans ++ Settle ∷ []))

  first-steady : AllByRecursion (HoldsOf IsSteady) first_part
  first-steady = (tt, (tt, (tt, all-join (HoldsOf IsSteady) (client_commands n seed) (plans ++ Settle ∷ []) (clients-steady n seed) (tt, (tt, (tt, (tt, tt)))))))

  first-few : length first_part ≤ 400
  first-few = three-more (length (client_commands n seed ++ (plans ++ Settle ∷ []))) (both-few (length (client_commands n seed)) (length (client_commands n seed ++ (plans ++ Settle ∷ []))) n (clients-few n seed) few (length-append (client_commands n seed) (plans ++ Settle ∷ [])))

  -- what the settle leaves
  settled-run : {before out printed shown : List Piece} {s middle next last : SessionState} → AllByRecursion (IsCommandOf fabric) first_part → IsRun fabric (mapping_commands n) before s → Runs s (client_commands n seed) out middle → Runs middle plans printed next
      → Hosts n (Ready n seed (messages n) (messages n)) next.world → Does next Settle shown last → (unacknowledged_in (settle next.world).world ≡ 0) × Hosts n (Polling 0 4) last.world
  settled-run {before = before} {out = out} {printed = printed} {shown = shown} {next = next} {last = last} said first calls planned ready does =
      let clients : List Command = client_commands n seed in
      let acts : AllByRecursion (IsActOf fabric) first_part = all-weaker (IsCommandOf fabric) (IsActOf fabric) first_part (said-act fabric) said in
      let later = all-back (IsActOf fabric) clients (plans ++ Settle ∷ []) acts.1.1.1 in
      let acts_ahead : AllByRecursion (IsActOf fabric) (mapping_commands n ++ (clients ++ plans)) =
      (acts.0, (acts.1.0, (acts.1.1.0, all-join (IsActOf fabric) clients plans (all-front (IsActOf fabric) clients (plans ++ Settle ∷ []) acts.1.1.1) (later.0, (later.1.0, (later.1.1.0, tt)))))) in
      let ahead : IsRun fabric (mapping_commands n ++ (clients ++ plans)) (before ++ (out ++ printed)) next = runs-join (clients ++ plans) (out ++ printed) first (runs-join plans printed calls planned) in
      let can = run-can_settle fabric (mapping_commands n ++ (clients ++ plans)) (before ++ (out ++ printed)) next k.fabric acts_ahead ahead in
      let reached : IsReached fabric next.world = run_is_reached fabric (mapping_commands n ++ (clients ++ plans)) (before ++ (out ++ printed)) next k.fabric acts_ahead ahead in
      let all : List Piece = before ++ (out ++ (printed ++ (shown ++ []))) in
      let one : Runs next (Settle ∷ []) (shown ++ []) last = goes_on does ended refl in
      let run : IsRun fabric first_part all last =
      runs-join (clients ++ (plans ++ Settle ∷ [])) (out ++ (printed ++ (shown ++ []))) first (runs-join (plans ++ Settle ∷ []) (printed ++ (shown ++ [])) calls (runs-join (Settle ∷ []) (shown ++ []) planned one)) in
      let there = runs_are_their_acts fabric first_part all last k.fabric acts run in
      let steady : AllByRecursion IsSteady there.reached.acts = subst (AllByRecursion IsSteady) (sym there.same) (runs-acts IsSteady steady-logs first-steady run) in
      let world : last.world ≡ (settle next.world).world = (settle-figures does).world in
      let after : IsReached fabric (settle next.world).world = record { fabric = there.reached.fabric; acts = there.reached.acts; may = there.reached.may; leads = sym world ∙ there.reached.leads } in
      let cost = runs-inject-few fabric first_part all last k.fabric said run in
      let long = first-few in
      let low : last.world.injected < last_count = omega (arith, cost, long) in
      let left : (settle next.world).world.injected < last_count = subst (λ (v : WorldState). v.injected < last_count) world low in
      let d : IsDelivered n (settle next.world).world = is-delivered fabric n seed two k.count next.world reached can.1 left ready after steady in
      (d.unacked, polls-first fabric n last.world there.reached k.count (subst (IsDelivered n) (sym world) d))

none-left : {s last : SessionState} {rest : List Piece} → Runs s [] rest last → figures_in rest ≡ []
none-left ended = refl

pub generated-six : (n seed : ℕ) {out : List Piece} {last : SessionState} → 2 ≤ n → n ≤ 24 → IsRun (gen_fabric n) (gen_commands n seed) out last → HasSixLines n seed (gen_fabric n) (figures_in out)
generated-six n seed {out = out} {last = last} two few run =
    let k : IsMappedWhole n = each-mapped_whole n two few in
    let g : Network = gen_fabric n in
    let clients : List Command = client_commands n seed in
    let polls : List Command = flat_map poll_commands (below n) ++ Finish ∷ [] in
    let accepted : IsAccepted n seed = each-accepted n seed two few in
    let said : AllByRecursion (IsCommandOf g) (gen_commands n seed) = reading_ranged g (4 * n) (drop (script_start n) (gen_text n seed)) (Ok (gen_commands n seed)) accepted.script in
    let later = all-back (IsCommandOf g) clients (settle_commands ++ polls) said.1.1.1 in
    let said_first : AllByRecursion (IsCommandOf g) (mapping_commands n ++ (clients ++ (plans ++ Settle ∷ []))) =
    (said.0, (said.1.0, (said.1.1.0, all-join (IsCommandOf g) clients (plans ++ Settle ∷ []) (all-front (IsCommandOf g) clients (settle_commands ++ polls) said.1.1.1) (later.0, (later.1.0, (later.1.1.0, (later.1.1.1.0, tt))))))) in
    let a : IsFirst (new_session g) last (Map 0 (depth n) 1) (Routes ∷ Install 1 ∷ (clients ++ (settle_commands ++ polls))) out = first-of run in
    let b : IsFirst a.next last Routes (Install 1 ∷ (clients ++ (settle_commands ++ polls))) a.rest = first-of a.behind in
    let c : IsFirst b.next last (Install 1) (clients ++ (settle_commands ++ polls)) b.rest = first-of b.behind in
    let d : AreParts c.next last clients (settle_commands ++ polls) c.rest = parts-of clients (settle_commands ++ polls) c.behind in
    let e : AreParts d.middle last plans (Settle ∷ polls) d.rest = parts-of plans (Settle ∷ polls) d.behind in
    let f : IsFirst e.middle last Settle polls e.rest = first-of e.behind in
    let p : AreParts f.next last (flat_map poll_commands (below n)) (Finish ∷ []) f.rest = parts-of (flat_map poll_commands (below n)) (Finish ∷ []) f.behind in
    let q : IsFirst p.middle last Finish [] p.rest = first-of p.behind in
    let mapped : IsFirstMap n a.out a.next = first-map n two few k (doing a.does) in
    let way : IsRouted n b.out b.next = routed n two few k mapped (doing b.does) in
    let before : IsRun g (Map 0 (depth n) 1 ∷ Routes ∷ []) (a.out ++ (b.out ++ [])) b.next = goes_on a.does (goes_on b.does ended refl) refl in
    let installed : IsInstalled n c.out c.next = installed-all n two few k (said.0, (said.1.0, tt)) (omega arith) said.1.1.0 before way c.does in
    let first : IsRun g (mapping_commands n) (a.out ++ (b.out ++ (c.out ++ []))) c.next = goes_on a.does (goes_on b.does (goes_on c.does ended refl) refl) refl in
    let begun : Hosts n (Opening n seed 0 0) c.next.world = begun-hosts n seed two k (said.0, (said.1.0, (said.1.1.0, tt))) first installed in
    let sent = calls-run n seed two few k begun d.before in
    let planned = plans-run sent.hosts e.before in
    let done = settled-run n seed two few k said_first first d.before e.before planned.hosts f.does in
    let settled = settle-figures f.does in
    let none : figures_in f.out ≡ Settled settled.rounds settled.resets 0 ∷ [] = settled.are ∙ ap (λ u. Settled settled.rounds settled.resets u ∷ []) done.0 in
    let polled = polls-run n 0 n (omega arith) done.1 p.before in
    let end = figures-both q.out q.rest [] [] q.whole (finish-figures q.does) (none-left q.behind) in
    let came : List Figure = replicate (4 * n) Received ++ [] in
    let closing : List Figure = Settled settled.rounds settled.resets 0 ∷ came in
    let called : List Figure = replicate (4 * n) Accepted ++ closing in
    let print : figures_in a.out ≡ Mapped Complete mapped.asks mapped.packets ∷ [] = ap figures_in mapped.printed in
    let figures : figures_in out ≡ these n mapped.asks mapped.packets settled.rounds settled.resets =
    figures-both a.out a.rest (Mapped Complete mapped.asks mapped.packets ∷ []) (Routed (n * (n - 1)) ∷ FigureInstalled n n ∷ called) a.whole print
    (figures-both b.out b.rest (Routed (n * (n - 1)) ∷ []) (FigureInstalled n n ∷ called) b.whole way.figures (figures-both c.out c.rest (FigureInstalled n n ∷ []) called c.whole installed.figures
    (figures-both d.out d.rest (replicate (4 * n) Accepted) closing d.whole sent.printed (figures-both e.out e.rest [] closing e.whole planned.printed
    (figures-both f.out f.rest (Settled settled.rounds settled.resets 0 ∷ []) came f.whole none (figures-both p.out p.rest (replicate (4 * n) Received) [] p.whole polled end))))))
    ∙ ap (λ fs. Mapped Complete mapped.asks mapped.packets ∷ Routed (n * (n - 1)) ∷ FigureInstalled n n ∷ (replicate (4 * n) Accepted ++ (Settled settled.rounds settled.resets 0 ∷ fs))) (append-nil (replicate (4 * n) Received)) in
    six-lines n seed mapped.asks mapped.packets settled.rounds settled.resets (figures_in out) (omega (arith, two)) k.count figures
