-- The runs of a generated text's calls: each port opens, each send is accepted, and each poll receives a message.
use Rattle.std.proofs.Common.{◌≡◌, ◌≤◌, ◌<◌, ◌+◌, ◌*◌, ℕ, zero, suc, List, [], ◌∷◌, ◌++◌, length, length-append, replicate, Bool, Option, refl, sym, ap, ◌∙◌, subst, append_assoc, arith}
use Rattle.std.specs.Prelude.{flat_map}
use Rattle.std.specs.List.{AllByRecursion, range_with_len}
use Rattle.std.proofs.lemmas.Grind.{flat_map-append}
use Rattle.std.proofs.lemmas.List.{append-nil}
use Rattle.world_defs.specs.declared.event.Event.{Event}
use Rattle.world_defs.specs.declared.event.Event.TheVariants.{Begin as BeginEvent, Provide as ProvideEvent, Send as SendEvent, Poll as PollEvent}
use Rattle.world_defs.specs.Acts.{acted_all}
use Rattle.world_defs.specs.Client.{ClientState}
use Rattle.world_defs.specs.Node.{NodeState}
use Rattle.world_defs.specs.Step.{step}
use Rattle.world_defs.specs.World.{client_at, planned}
use Rattle.run_defs.specs.declared.command.Command.{Command}
use Rattle.run_defs.specs.declared.command.Command.TheVariants.{Begin, Poll, Provide, Send, Plan}
use Rattle.run_defs.specs.declared.command.PlanKind.{PlanKind}
use Rattle.run_defs.specs.declared.figure.Figure.{Figure}
use Rattle.run_defs.specs.declared.figure.Figure.TheVariants.{Accepted, Received}
use Rattle.run_defs.specs.declared.line.ClientCall.TheVariants.{Begin as BeginCall, Provide as ProvideCall, Send as SendCall, Poll as PollCall}
use Rattle.run_defs.specs.declared.line.Line.{Line}
use Rattle.run_defs.specs.Deed.{Deed}
use Rattle.run_defs.specs.Outcome.{client_lines, fault_of, happening, planning}
use Rattle.run_defs.specs.Output.{Piece, lines}
use Rattle.run_defs.specs.Run.{IsDeed, Does, Runs}
use Rattle.run_defs.specs.Run.IsDeed.{determined}
use Rattle.run_defs.specs.Run.Runs.{ended}
use Rattle.run_defs.specs.Session.{SessionState}
use Rattle.run_defs.specs.Summary.{call_figures, figures_in, piece_figures}
use Rattle.run_defs.proofs.Doing.{does-world}
use Rattle.run_laws.proofs.RunsOnce.{deed-one}
use Rattle.fabric_gen.specs.Text.{peer, message_size, message_prio, message_length, message_seed}
use Rattle.fabric_gen.proofs.Messages.{goes-on, peer-below}
use Rattle.input_texts.specs.Generated.{open_commands, message_commands, commands_of, poll_commands}
use Rattle.delivery_laws.proofs.Counts.{count_of}
use Rattle.gen_laws.proofs.Calling.{Ready, provides, sends}
use Rattle.gen_laws.proofs.Hosts.{Hosts}
use Rattle.gen_laws.proofs.Opening.{Opening, opens-sends, opens-takes}
use Rattle.gen_laws.proofs.Counts.{count-append, pairs, messages, messages-long, is_from, is_to, four-to, four-from}
use Rattle.gen_laws.proofs.Delivering.{from-hosts}
use Rattle.gen_laws.proofs.Polling.{Polling, polls, polls-next}
use Rattle.gen_laws.proofs.Figures.{IsFirst, first-of}

-- what a command left and what it printed, where its deed is one event
record IsCalled (s next : SessionState) (e : Event) (ls : List Line) (out : List Piece) : Type 0 where
  world : next.world ≡ (step s.world e).1
  prints : out ≡ lines ls

called : {s next : SessionState} {c : Command} {out : List Piece} (e : Event) (ls : List Line) → IsDeed s c (happening (e ∷ []) ls) → Does s c out next → IsCalled s next e ls out
called {s = s} e ls is d =
    let same : d.deed ≡ happening (e ∷ []) ls = deed-one d.is is in
    record { world = does-world d ∙ ap (λ (x : Deed). acted_all s.world x.acts) same; prints = d.prints ∙ ap (λ (x : Deed). x.output) same }

-- the figures of what is printed in a row
pub figures-both : {all : List Piece} (out rest : List Piece) (fs gs : List Figure) → all ≡ out ++ rest → figures_in out ≡ fs → figures_in rest ≡ gs → figures_in all ≡ fs ++ gs
figures-both out rest fs gs whole f g = ap figures_in whole ∙ flat_map-append piece_figures out rest ∙ (λ i. f i ++ g i)

-- What a run leaves of the hosts, and its figures.
pub record Leaves (n : ℕ) (P : ℕ → NodeState → List (Option ClientState) → Type 0) (last : SessionState) (out : List Piece) (figures : List Figure) : Type 0 where
  pub hosts : Hosts n P last.world
  pub printed : figures_in out ≡ figures

-- ---- ports open
opens-one : {n seed a : ℕ} {s next : SessionState} {out : List Piece} → a < n → Hosts n (Opening n seed a a) s.world → Does s (Begin a 0 4 0) out next → Leaves n (Opening n seed (suc a) a) next out []
opens-one {n = n} {seed = seed} {a = a} {s = s} low is d =
    let e : Event = BeginEvent a 0 4 0 in
    let k = called e (client_lines BeginCall a 0 (step s.world e).0) (determined refl) d in
    record { hosts = subst (Hosts n (Opening n seed (suc a) a)) (sym k.world) (opens-sends n seed a s.world (client_at s.world a 0) low is); printed = ap figures_in k.prints }

opens-other : {n seed a : ℕ} {s next : SessionState} {out : List Piece} → a < n → Hosts n (Opening n seed (suc a) a) s.world → Does s (Begin a 1 0 4) out next → Leaves n (Opening n seed (suc a) (suc a)) next out []
opens-other {n = n} {seed = seed} {a = a} {s = s} low is d =
    let e : Event = BeginEvent a 1 0 4 in
    let k = called e (client_lines BeginCall a 1 (step s.world e).0) (determined refl) d in
    record { hosts = subst (Hosts n (Opening n seed (suc a) (suc a))) (sym k.world) (opens-takes n seed a s.world (client_at s.world a 1) low is); printed = ap figures_in k.prints }

pub opens-run : (n seed a k : ℕ) {s last : SessionState} {out : List Piece} → a + k ≡ n → Hosts n (Opening n seed a a) s.world → Runs s (flat_map open_commands (range_with_len a k)) out last → Leaves n (Opening n seed n n) last out []
opens-run n seed a zero {s = s} e is ended = let all : a ≡ n = omega (arith, e) in record { hosts = subst (λ b. Hosts n (Opening n seed b b) s.world) all is; printed = refl }
opens-run n seed a (suc k) {s = s} {last = last} {out = out} e is r =
    let later : List Command = flat_map open_commands (range_with_len (a + 1) k) in
    let f : IsFirst s last (Begin a 0 4 0) (Begin a 1 0 4 ∷ later) out = first-of r in
    let g : IsFirst f.next last (Begin a 1 0 4) later f.rest = first-of f.behind in
    let low : a < n = omega (arith, e) in
    let x = opens-one low is f.does in
    let y = opens-other low x.hosts g.does in
    let next : suc a ≡ a + 1 = omega arith in
    let rest = opens-run n seed (a + 1) k (omega (arith, e)) (subst (λ b. Hosts n (Opening n seed b b) g.next.world) next y.hosts) g.behind in
    record { hosts = rest.hosts; printed = figures-both f.out f.rest [] [] f.whole x.printed (figures-both g.out g.rest [] [] g.whole y.printed rest.printed) }

-- ---- messages are sent
all-at : {A : Type 0} (P : A → Type 0) (xs : List A) (x : A) (ys : List A) → AllByRecursion P (xs ++ x ∷ ys) → P x
all-at P [] x ys all = all.0
all-at P (y ∷ xs) x ys all = all-at P xs x ys all.1

count-part : {A : Type 0} (test : A → Bool) (xs ys : List A) → count_of test xs ≤ count_of test (xs ++ ys)
count-part test xs ys = let both = count-append test xs ys in omega (arith, both)

-- a message's commands
abbrev commands_for : ℕ → ℕ → ℕ × ℕ → List Command
commands_for n seed d = message_commands n seed d.0 d.1

sends-one : {n seed : ℕ} {done : List (ℕ × ℕ)} (rest : List (ℕ × ℕ)) (d : ℕ × ℕ) {s next last : SessionState} {out printed : List Piece} → 2 ≤ n → n ≤ 24 → done ++ d ∷ rest ≡ messages n → Hosts n (Ready n seed done done) s.world
    → Does s (Provide (peer n seed d.0 d.1) 1 (message_size seed d.0 d.1) (message_prio d.1)) out next
    → Does next (Send d.0 0 (peer n seed d.0 d.1) 1 (message_prio d.1) (message_length seed d.0 d.1) (message_seed seed d.0 d.1)) printed last
    → Leaves n (Ready n seed (done ++ d ∷ []) (done ++ d ∷ [])) last (out ++ printed) (Accepted ∷ [])
sends-one {n = n} {seed = seed} {done = done} rest d {s = s} {next = next} {last = last} {out = out} {printed = printed} two few all is x y = by
  where
    h : ℕ
    h = peer n seed d.0 d.1

    low : d.0 < n
    low = all-at (λ (z : ℕ × ℕ). z.0 < n) done d rest (subst (AllByRecursion (λ (z : ℕ × ℕ). z.0 < n)) (sym all) (from-hosts n))

    there : h < n
    there = peer-below n seed d.0 d.1 two

    front : (done ++ d ∷ []) ++ rest ≡ messages n
    front = append_assoc done (d ∷ []) rest ∙ all

    count-few : (test : ℕ × ℕ → Bool) → count_of test (messages n) ≡ 4 → count_of test (done ++ d ∷ []) ≤ 4
    count-few test four =
        let part = count-part test (done ++ d ∷ []) rest in
        let whole = ap (count_of test) front in
        omega (arith, part, whole, four)

    long : length done ≤ 96
    long =
        let part = length-append done (d ∷ rest) in
        let whole = ap length all in
        let count = messages-long n in
        omega (arith, part, whole, count, few)

    first : Event
    first = ProvideEvent h 1 (message_size seed d.0 d.1) (message_prio d.1)

    second : Event
    second = SendEvent d.0 0 h 1 (message_prio d.1) (message_length seed d.0 d.1) (message_seed seed d.0 d.1)

    by : Leaves n (Ready n seed (done ++ d ∷ []) (done ++ d ∷ [])) last (out ++ printed) (Accepted ∷ [])
    by =
        let k = called first (client_lines ProvideCall h 1 (step s.world first).0) (determined refl) x in
        let p = provides n seed done done d s.world there (count-few (is_to n seed h) (four-to n seed h two there)) is in
        let now : Hosts n (Ready n seed (done ++ d ∷ []) done) next.world = subst (Hosts n (Ready n seed (done ++ d ∷ []) done)) (sym k.world) p.hosts in
        let j = called second (client_lines SendCall d.0 0 (step next.world second).0) (determined refl) y in
        let q = sends n seed (done ++ d ∷ []) done d next.world low there (goes-on n seed d.0 d.1 two low) long (count-few (is_from d.0) (four-from n d.0 low)) now in
        record {
          hosts = subst (Hosts n (Ready n seed (done ++ d ∷ []) (done ++ d ∷ []))) (sym j.world) q.hosts;
          printed = figures-both out printed [] (Accepted ∷ []) refl (ap figures_in k.prints) (ap figures_in j.prints ∙ ap (λ said. call_figures SendCall said ++ []) q.said);
        }

pub sends-run : (n seed : ℕ) (done rest : List (ℕ × ℕ)) {s last : SessionState} {out : List Piece} → 2 ≤ n → n ≤ 24 → done ++ rest ≡ messages n → Hosts n (Ready n seed done done) s.world → Runs s (flat_map (commands_for n seed) rest) out last
    → Leaves n (Ready n seed (messages n) (messages n)) last out (replicate (length rest) Accepted)
sends-run n seed done [] {s = s} two few all is ended = let whole : done ≡ messages n = sym (append-nil done) ∙ all in record { hosts = subst (λ ds. Hosts n (Ready n seed ds ds) s.world) whole is; printed = refl }
sends-run n seed done (d ∷ rest) {s = s} {last = last} {out = out} two few all is r =
    let later : List Command = flat_map (commands_for n seed) rest in
    let to : ℕ = peer n seed d.0 d.1 in
    let f : IsFirst s last (Provide to 1 (message_size seed d.0 d.1) (message_prio d.1)) (Send d.0 0 to 1 (message_prio d.1) (message_length seed d.0 d.1) (message_seed seed d.0 d.1) ∷ later) out = first-of r in
    let g : IsFirst f.next last (Send d.0 0 to 1 (message_prio d.1) (message_length seed d.0 d.1) (message_seed seed d.0 d.1)) later f.rest = first-of f.behind in
    let one = sends-one {done = done} rest d two few all is f.does g.does in
    let others = sends-run n seed (done ++ d ∷ []) rest two few (append_assoc done (d ∷ []) rest ∙ all) one.hosts g.behind in
    record { hosts = others.hosts; printed = figures-both (f.out ++ g.out) g.rest (Accepted ∷ []) (replicate (length rest) Accepted) (f.whole ∙ ap (λ l. f.out ++ l) g.whole ∙ sym (append_assoc f.out g.out g.rest)) one.printed others.printed }

-- the commands of all hosts are those of their messages
pub same-commands : (n seed : ℕ) (is : List ℕ) → flat_map (commands_of n seed) is ≡ flat_map (commands_for n seed) (pairs is)
same-commands n seed [] = refl
same-commands n seed (i ∷ is) = ap (λ cs. commands_of n seed i ++ cs) (same-commands n seed is)

-- ---- a plan leaves the hosts
pub plans-one : {n : ℕ} {P : ℕ → NodeState → List (Option ClientState) → Type 0} (ahead : ℕ) (kind : PlanKind) {s next : SessionState} {out : List Piece} → Hosts n P s.world → Does s (Plan ahead kind) out next → Leaves n P next out []
plans-one {n = n} {P = P} ahead kind {s = s} is d =
    let same : d.deed ≡ planning s.world ahead (fault_of kind) = deed-one d.is (determined refl) in
    let still : Hosts n P (planned s.world ahead (fault_of kind)).1 = record { count = is.count; rows = is.rows; each = is.each } in
    record { hosts = subst (Hosts n P) (sym (does-world d ∙ ap (λ (x : Deed). acted_all s.world x.acts) same)) still; printed = ap figures_in (d.prints ∙ ap (λ (x : Deed). x.output) same) }

-- ---- messages are polled
polls-one : {n a k : ℕ} {s next : SessionState} {out : List Piece} → a < n → Hosts n (Polling a (suc k)) s.world → Does s (Poll a 1) out next → Leaves n (Polling a k) next out (Received ∷ [])
polls-one {n = n} {a = a} {k = k} {s = s} low is d =
    let e : Event = PollEvent a 1 in
    let c = called e (client_lines PollCall a 1 (step s.world e).0) (determined refl) d in
    let p = polls n a k s.world low is in
    record { hosts = subst (Hosts n (Polling a k)) (sym c.world) p.hosts; printed = ap figures_in c.prints ∙ ap (λ said. call_figures PollCall said ++ []) p.said }

pub polls-run : (n a k : ℕ) {s last : SessionState} {out : List Piece} → a + k ≡ n → Hosts n (Polling a 4) s.world → Runs s (flat_map poll_commands (range_with_len a k)) out last → figures_in out ≡ replicate (4 * k) Received
polls-run n a zero e is ended = refl
polls-run n a (suc k) {s = s} {last = last} {out = out} e is r =
    let later : List Command = flat_map poll_commands (range_with_len (a + 1) k) in
    let low : a < n = omega (arith, e) in
    let p : IsFirst s last (Poll a 1) (Poll a 1 ∷ Poll a 1 ∷ Poll a 1 ∷ later) out = first-of r in
    let q : IsFirst p.next last (Poll a 1) (Poll a 1 ∷ Poll a 1 ∷ later) p.rest = first-of p.behind in
    let u : IsFirst q.next last (Poll a 1) (Poll a 1 ∷ later) q.rest = first-of q.behind in
    let v : IsFirst u.next last (Poll a 1) later u.rest = first-of u.behind in
    let one = polls-one {k = 3} low is p.does in
    let two = polls-one {k = 2} low one.hosts q.does in
    let three = polls-one {k = 1} low two.hosts u.does in
    let four = polls-one {k = 0} low three.hosts v.does in
    let next : suc a ≡ a + 1 = omega arith in
    let rest = polls-run n (a + 1) k (omega (arith, e)) (subst (λ b. Hosts n (Polling b 4) v.next.world) next (polls-next n a v.next.world four.hosts)) v.behind in
    let more : suc (suc (suc (suc (4 * k)))) ≡ 4 * suc k = omega arith in
    let fs : List Figure = replicate (4 * k) Received in
    figures-both p.out p.rest (Received ∷ []) (Received ∷ Received ∷ Received ∷ fs) p.whole one.printed
    (figures-both q.out q.rest (Received ∷ []) (Received ∷ Received ∷ fs) q.whole two.printed (figures-both u.out u.rest (Received ∷ []) (Received ∷ fs) u.whole three.printed (figures-both v.out v.rest (Received ∷ []) fs v.whole four.printed rest))) ∙ ap (λ m. replicate m Received) more
