-- Along every run the last routes are those of a right map: so they can be installed, and the line of an installation is true.
use Rattle.std.proofs.Common.{◌≡◌, ◌≢◌, ◌<◌, ◌≤◌, ℕ, suc, is_some, Bool, true, false, not, ◌||◌, List, [], ◌∷◌, map, length, nat_eq, Option, Some, None, cond, inl, inr, refl, sym, ◌∙◌, ap, subst, true≢false, arith, if◌then◌else◌}
use Rattle.std.specs.List.{AllByRecursion, list_any, filter}
use Rattle.std.proofs.lemmas.Bool.Decides.{Decides-eqb, nat_tests}
use Rattle.std.proofs.lemmas.Option.{same_Some}
use Rattle.std.proofs.lemmas.List.{get_or-set_same}
use Rattle.net_defs.specs.declared.vertex.Vertex.TheVariants.{Host}
use Rattle.net_defs.specs.Network.{Network, IsFabric, has_vertex}
use Rattle.world_defs.specs.Links.{LinkState, is_idle}
use Rattle.world_defs.specs.Fault.{accept}
use Rattle.journal_defs.specs.Part.{Path, IsInPart}
use Rattle.journal_defs.proofs.Members.{IsMember}
use Rattle.map_defs.specs.NetMap.{host_of_vertex, hosts_of}
use Rattle.map_defs.specs.Sameness.{IsMapOfPart, address_of}
use Rattle.map_laws.proofs.Listed.{member-host}
use Rattle.world_defs.specs.Node.{NodeState, new_node}
use Rattle.world_defs.specs.World.{WorldState, host_count, last_count, node_at, addresses, adopted_by, keeps_epoch}
use Rattle.world_defs.proofs.LogViews.{installed}
use Rattle.world_defs.specs.Logs as log
use Rattle.world_defs.specs.Log.{Log, came_to}
use Rattle.run_defs.specs.declared.command.Command.{Command}
use Rattle.run_defs.specs.declared.command.Command.TheVariants.{Map, Circuit, Install, Plan}
use Rattle.run_defs.specs.declared.line.Line.TheVariants.{Installed, InstallRefused}
use Rattle.run_defs.specs.declared.line.InstallCause.{InstallCause}
use Rattle.run_defs.specs.declared.line.InstallCause.TheVariants.{NoRoutes, Busy}
use Rattle.run_defs.specs.Output.{Piece, OneLine, lines}
use Rattle.run_defs.specs.Session.{SessionState, LastMap, LastRoutes, new_session, is_complete, complete_map}
use Rattle.run_defs.specs.Deed.{says, session_after}
use Rattle.run_defs.specs.Outcome.{Kind, kind_of, Outcome, table_line, installation, install_now, install, seen, outcome, set_of, may_install, refusal_cause}
use Rattle.world_defs.specs.Table.{Adoption, ActiveTable, whole_table}
use Rattle.run_defs.specs.Run.{Runs}
use Rattle.run_defs.proofs.Doing.{Doing, doing, does, acted-installation}
use Rattle.run_defs.proofs.Doing.Doing.{determined, maps, circuits, routes}
use Rattle.run_defs.proofs.ByKind.{IsLaw, by-kind, outcome-law}
use Rattle.run_defs.specs.Run.Runs.{ended, goes_on}
use Rattle.run_defs.specs.Headline.{FitsFabric}
use Rattle.world_defs.specs.Acts.{IsReached}
use Rattle.world_defs.specs.History.{CableHistory, fabric_at}
use Rattle.world_defs.proofs.ActsKept.{CablesKept}
use Rattle.world_defs.proofs.Cables.{reached-cables}
use Rattle.mapping_laws.specs.Runs.{IsSessionOf}
use Rattle.mapping_laws.specs.Held.{HoldsRight}
use Rattle.install_laws.proofs.Worlds.{stays-same, installed-of, installed-set}
use Rattle.mapping_laws.proofs.Sessions.{mapped-stays, does-keep, does-stays, new-session}
use Rattle.mapping_laws.proofs.Holding.{can-install, does-hold, new-holds}
use Rattle.run_laws.specs.Acts.{IsActOf}
use Rattle.install_laws.proofs.Leads.{Leads, leads-adoption, along-leads, reached-further}
use Rattle.install_laws.proofs.Epochs.{adopted-unrevoked}
use Rattle.run_laws.proofs.Ranked.{right_routes_are_adoptable}
use Rattle.run_laws.proofs.Reaching.{WereAdoptable, adoptable-now, run_is_reached}
use Rattle.install_laws.specs.Premises.{IsJoined}
use Rattle.install_laws.specs.Tables.{has_table}
use Rattle.run_laws.specs.InstallLines.{RightRoutesAreShort, IsSetOfMap, RunRoutesAreOfMap, RunCanInstall, IsInstalledLine, InstalledLineIsTrue}
use Rattle.install_laws.proofs.Installing.{missed-harmed}
use Rattle.install_laws.proofs.Counting.{counts-most, counts-tables, unharmed-all}
use Rattle.table_laws.specs.Set.{IsActive, IsActiveOfSet}
use Rattle.table_laws.proofs.Dependencies.{active-of_set}
use Rattle.run_laws.proofs.Shortest.{least-all-short}

host-there : (n : Network) (h : ℕ) → h < length n.hosts → has_vertex n (Host h) ≡ true
host-there n h low = grind (arith, nat_tests)

pub right-short : RightRoutesAreShort
right-short n host m rs f low right are = least-all-short n host m _ rs f (host-there n host low) right are.least

-- a determined command leaves the last map and the last routes
abbrev KeepsLast : SessionState → SessionState → Type 0
KeepsLast s next = (next.last_map ≡ s.last_map) × (next.last_routes ≡ s.last_routes)

last-law : (s : SessionState) (k : Kind) → IsLaw (λ d. KeepsLast s (session_after s d)) s k
last-law s k = record {
  reads = λ ls. (refl, refl);
  happens = λ es ls are. (refl, refl);
  plans = λ ahead fault is. (refl, refl);
  installs = λ l tries is are may. (refl, refl);
  restarts = λ e is. (refl, refl);
}

outcome-last : (s : SessionState) (c : Command) (o : Outcome) → outcome s c ≡ Some o → KeepsLast s o.after
outcome-last s c o e = outcome-law (λ o. KeepsLast s o.after) s c o (by-kind (λ d. KeepsLast s (session_after s d)) s (kind_of c) (last-law s (kind_of c))) e

-- A session that a run leads to.
record IsLed (n : Network) (s : SessionState) : Type 0 where
  session : IsSessionOf n s
  holds : HoldsRight s
  mapper : (l : LastMap) → complete_map s.last_map ≡ Some l → l.mapper < length n.hosts
  set : (l : LastRoutes) → s.last_routes ≡ Some l → IsSetOfMap s.world.links.cables l

-- what of it a command leaves
record IsLast (n : Network) (s : SessionState) : Type 0 where
  mapper : (l : LastMap) → complete_map s.last_map ≡ Some l → l.mapper < length n.hosts
  set : (l : LastRoutes) → s.last_routes ≡ Some l → IsSetOfMap s.world.links.cables l

-- what was of a map stays so
set-past : (w v : WorldState) (l : LastRoutes) → CablesKept w v → IsSetOfMap w.links.cables l → IsSetOfMap v.links.cables l
set-past w v l k is =
    let low = is.past in
    let more = k.changes in
    record {
      made = is.made;
      past = omega (arith, low, more);
      is_host = subst (λ hs. l.mapper < length hs) (sym k.hosts) is.is_host;
      rules = is.rules;
      right = subst (λ n. IsMapOfPart n l.mapper is.made) (sym (k.past l.began low)) is.right;
      routes = is.routes;
      hosts = is.hosts;
    }

last-same : (n : Network) (s next : SessionState) → IsLed n s → CablesKept s.world next.world → next.last_map ≡ s.last_map → next.last_routes ≡ s.last_routes → IsLast n next
last-same n s next led k e f = record { mapper = λ l is. led.mapper l (ap complete_map (sym e) ∙ is); set = λ l is. set-past s.world next.world l k (led.set l (sym f ∙ is)) }

-- a map that was just made
same-map : (r l : LastMap) → complete_map (Some r) ≡ Some l → r ≡ l
same-map r l e = by (is_complete r.words) e
  where
    by : (b : Bool) → cond b (Some r) None ≡ Some l → r ≡ l
    by true p = cc
    by false p = cc

-- routes that were just computed
filter-passes : (test : ℕ → Bool) (hs : List ℕ) → AllByRecursion (λ h. test h ≡ true) (filter test hs)
filter-passes test [] = tt
filter-passes test (h ∷ hs) = by (test h) refl (filter-passes test hs)
  where
    by : (b : Bool) → test h ≡ b → AllByRecursion (λ h. test h ≡ true) (filter test hs) → AllByRecursion (λ h. test h ≡ true) (if b then h ∷ filter test hs else filter test hs)
    by true e rest = (e, rest)
    by false e rest = rest

kept-set : (h : CableHistory) (r l : LastRoutes) → IsSetOfMap h r → Some r ≡ Some l → IsSetOfMap h l
kept-set h r l is e = let one : r ≡ l = cc in subst (IsSetOfMap h) one is

-- the hosts of a session over a fabric
session-hosts : (n : Network) (s : SessionState) → IsSessionOf n s → length s.world.links.cables.hosts ≡ length n.hosts
session-hosts n s is = ap (λ (x : Network). length x.hosts) is.first

command-of : (n : Network) (c : Command) → IsActOf n c → FitsFabric n c
command-of n (Map host depth tries) is = is
command-of n (Circuit host depth) is = is
command-of n (Plan ahead kind) is = is.1
command-of n c is = tt

last-so : {s next : SessionState} {c : Command} {out : List Piece} → (n : Network) → IsActOf n c → IsLed n s → Doing s c out next → IsLast n next
last-so {s = s} {next = next} {c = c} {out = out} n of_n led (determined e) =
    let k = outcome-last s c (record { output = out; after = next }) e in last-same n s next led (does-keep {s = s} {next = next} {c = c} n (command-of n c of_n) (does (determined e))).cables k.0 k.1
last-so {s = s} {next = next} n of_n led (maps {host = host} {depth = depth} {tries = tries} after j m words idle made printed left) =
    let r : LastMap = record { mapper = host; words = words; made = m; began = s.world.links.cables.changes } in
    let k = (mapped-stays s.world after host tries j made.led).cables in
    subst (IsLast n) (sym left) (record { mapper = λ l e. subst (λ (x : LastMap). x.mapper < length n.hosts) (same-map r l e) of_n.0; set = λ l e. set-past s.world after l k (led.set l e) })
last-so {s = s} {next = next} n of_n led (circuits told left) = last-same n s next led (subst (λ (x : SessionState). CablesKept s.world x.world) (sym left) (stays-same s.world).cables) (ap (λ (x : SessionState). x.last_map) left) (ap (λ (x : SessionState). x.last_routes) left)
last-so {s = s} {next = next} n of_n led (routes l found complete are printed left) =
    let k = led.holds.complete l complete in
    let hosts : List ℕ = filter (λ h. list_any (nat_eq h) (hosts_of l.made.vertices)) (addresses s.world) in
    let r : LastRoutes = record { mapper = l.mapper; hosts = hosts; routes = found; began = l.began } in
    let is : IsSetOfMap s.world.links.cables r = record {
      made = l.made;
      past = k.past;
      is_host = subst (λ k. l.mapper < k) (sym (session-hosts n s led.session)) (led.mapper l complete);
      rules = k.right.rules;
      right = k.right.right;
      routes = are;
      hosts = filter-passes (λ h. list_any (nat_eq h) (hosts_of l.made.vertices)) (addresses s.world);
    } in
    subst (IsLast n) (sym left) (record { mapper = led.mapper; set = λ x e. kept-set s.world.links.cables r x is e })

runs-led : {s last : SessionState} {cs : List Command} {out : List Piece} → (n : Network) → AllByRecursion (IsActOf n) cs → IsLed n s → Runs s cs out last → IsLed n last
runs-led n all led ended = led
runs-led {s = s} n all led (goes_on {next = next} {c = c} d r e) =
    let of_n = command-of n c all.0 in
    let on = last-so n all.0 led (doing d) in
    let now : IsLed n next = record { session = does-stays n of_n led.session d; holds = does-hold n of_n led.session led.holds d; mapper = on.mapper; set = on.set } in
    runs-led n all.1 now r

run-led : (n : Network) (commands : List Command) (out : List Piece) (s : SessionState) → IsFabric n → AllByRecursion (IsActOf n) commands → Runs (new_session n) commands out s → IsLed n s
run-led n commands out s f all r = runs-led n all (record { session = new-session n f; holds = new-holds n; mapper = λ l e. cc; set = λ l e. cc }) r

pub run-set : RunRoutesAreOfMap
run-set n commands out s l f all r are = (run-led n commands out s f all r).set l are

-- a host of the map is joined to the mapper
any-member : (h : ℕ) (hs : List ℕ) → list_any (nat_eq h) hs ≡ true → IsMember h hs
any-member h [] e = absurd (true≢false (sym e))
any-member h (g ∷ gs) e = by (nat_eq h g) refl e (any-member h gs)
  where
    by : (b : Bool) → nat_eq h g ≡ b → (b || list_any (nat_eq h) gs) ≡ true → (list_any (nat_eq h) gs ≡ true → IsMember h gs) → IsMember h (g ∷ gs)
    by true p q rest = inl ((Decides-eqb h g).0 p)
    by false p q rest = inr (rest q)

all-joined : (h : CableHistory) (w : WorldState) (l : LastRoutes) (k : IsSetOfMap h l) (hs : List ℕ) → AllByRecursion (λ h. list_any (nat_eq h) (hosts_of k.made.vertices) ≡ true) hs → AllByRecursion (λ h. h ≢ l.mapper → IsJoined (set_of w l) h) hs
all-joined g w l k [] all = tt
all-joined g w l k (h ∷ hs) all = (joined, all-joined g w l k hs all.1)
  where
    own : IsInPart (fabric_at g l.began) l.mapper (Host l.mapper)
    own = record { cables = 0; path = Path.here }

    mapper : host_of_vertex k.made (k.right.origin (Host l.mapper)) ≡ Some l.mapper
    mapper = sym (k.right.addresses (k.right.origin (Host l.mapper)) (k.right.origin_in (Host l.mapper) own)) ∙ ap address_of (k.right.image_origin (Host l.mapper) own)

    joined : h ≢ l.mapper → IsJoined (set_of w l) h
    joined other =
        let v = member-host k.made.vertices h (any-member h (hosts_of k.made.vertices) all.0) in
        let u : ℕ = k.right.origin (Host l.mapper) in
        record { there = k.routes.whole u v.0 l.mapper h mapper v.1 (λ e. other (sym e)); back = k.routes.whole v.0 u h l.mapper v.1 mapper other }

-- an epoch that begins puts no packet into a channel
accepted-idle : (s : LinkState) (b : Bool) → is_idle (if b then s else accept s) ≡ is_idle s
accepted-idle s true = refl
accepted-idle s false = refl

-- nor does it change the count of changes
accepted-changes : (s : LinkState) (b : Bool) → (if b then s else accept s).cables.changes ≡ s.cables.changes
accepted-changes s true = refl
accepted-changes s false = refl

-- the last routes are adopted
pub run-can_install : RunCanInstall
run-can_install n commands out s l f all r are idle other =
    let led = run-led n commands out s f all r in
    let k = led.set l are in
    let w : WorldState = adopted_by s.world l.mapper l.routes in
    let cables : CableHistory = s.world.links.cables in
    let past : Network = fabric_at cables l.began in
    let fair = led.session.history.fabrics l.began in
    let now = can-install s.world l (ap not other) in
    let were : WereAdoptable cables l = record { past = k.past; may = right_routes_are_adoptable past l.mapper k.made l.routes fair k.rules k.right k.routes } in
    let adopts = leads-adoption s.world l.mapper l.routes (adoptable-now s.world l led.session.history now.0 were) now.1 in
    let reached : IsReached n w = reached-further n s.world w (run_is_reached n commands out s f all r) adopts in
    record {
      reached = subst (λ m. IsReached m w) (sym (reached-cables n w reached).first) reached;
      idle = accepted-idle s.world.links (keeps_epoch s.world l.routes) ∙ idle;
      adopted = refl;
      unchanged = accepted-changes s.world.links (keeps_epoch s.world l.routes);
      unrevoked = adopted-unrevoked n s.world l.mapper l.routes (run_is_reached n commands out s f all r) now.1;
      set = record {
        in_order = k.routes.in_order;
        few_turns = right-short past l.mapper k.made l.routes fair k.is_host k.right k.routes;
        joined = all-joined cables s.world l k l.hosts k.hosts;
      };
    }

-- what an installation prints
record Prints (s next : SessionState) (tries acked total : ℕ) : Type 0 where
  last : LastRoutes
  are : s.last_routes ≡ Some last
  idle : is_idle s.world.links ≡ true
  same : may_install s.world last ≡ true
  counted : installed (set_of s.world last) last.hosts tries (adopted_by s.world last.mapper last.routes) ≡ (acked, next.world)
  all : total ≡ length last.hosts

abbrev PrintsIn : SessionState → ℕ → ℕ → ℕ → List Piece → Option Outcome → SessionState → Type 0
PrintsIn s tries acked total rest o next = o ≡ Some (record { output = OneLine (Installed acked total) ∷ rest; after = next }) → Prints s next tries acked total

done-prints : (s next : SessionState) (tries acked total : ℕ) (rest : List Piece) (l : LastRoutes) → s.last_routes ≡ Some l → is_idle s.world.links ≡ true → may_install s.world l ≡ true → PrintsIn s tries acked total rest (Some (seen s (install_now s.world l tries))) next
done-prints s next tries acked total rest l are idle same e =
    let r : Log ℕ = installation s.world l tries in
    let k : ℕ = r.value in
    let w : WorldState = r.world in
    let said : Outcome = record { output = OneLine (Installed acked total) ∷ rest; after = next } in
    let o : seen s (install_now s.world l tries) ≡ said = same_Some (seen s (install_now s.world l tries)) said e in
    let printed : OneLine (Installed k (length l.hosts)) ∷ lines (map (table_line w) l.hosts) ≡ OneLine (Installed acked total) ∷ rest = ap (λ (x : Outcome). x.output) o in
    let one : k ≡ acked = cc in
    let all : length l.hosts ≡ total = cc in
    let after : w ≡ next.world = sym (acted-installation s.world l tries) ∙ ap (λ (x : Outcome). x.after.world) o in
    record { last = l; are = are; idle = idle; same = same; counted = λ i. (one i, after i); all = sym all }

-- a refusal is another line
refusal-prints : (s next : SessionState) (tries acked total : ℕ) (rest : List Piece) (cause : InstallCause) → PrintsIn s tries acked total rest (Some (seen s (says (InstallRefused cause ∷ [])))) next
refusal-prints s next tries acked total rest cause e =
    let said : Outcome = record { output = OneLine (Installed acked total) ∷ rest; after = next } in
    let refused : Outcome = seen s (says (InstallRefused cause ∷ [])) in
    let o : refused ≡ said = same_Some refused said e in
    let printed : OneLine (InstallRefused cause) ∷ [] ≡ OneLine (Installed acked total) ∷ rest = ap (λ (x : Outcome). x.output) o in
    absurd (no_line printed)
  where
    no_line : OneLine (InstallRefused cause) ∷ [] ≡ OneLine (Installed acked total) ∷ rest → ⊥
    no_line e = cc

install-prints : (s next : SessionState) (tries acked total : ℕ) (rest : List Piece) (o : Option LastRoutes) → s.last_routes ≡ o → PrintsIn s tries acked total rest (Some (seen s (install s.world tries o))) next
install-prints s next tries acked total rest None are e = refusal-prints s next tries acked total rest NoRoutes e
install-prints s next tries acked total rest (Some l) are e = by (is_idle s.world.links) (may_install s.world l) refl refl e
  where
    by : (idle may : Bool) → is_idle s.world.links ≡ idle → may_install s.world l ≡ may → PrintsIn s tries acked total rest (Some (seen s (if not idle then says (InstallRefused Busy ∷ []) else if not may then says (InstallRefused (refusal_cause s.world l) ∷ []) else install_now s.world l tries))) next
    by false other p q d = refusal-prints s next tries acked total rest Busy d
    by true false p q d = refusal-prints s next tries acked total rest (refusal_cause s.world l) d
    by true true p q d = done-prints s next tries acked total rest l are p q d

does-install : (s next : SessionState) (tries acked total : ℕ) (rest : List Piece) → Doing s (Install tries) (OneLine (Installed acked total) ∷ rest) next → Prints s next tries acked total
does-install s next tries acked total rest (determined e) = install-prints s next tries acked total rest s.last_routes refl e

-- a list that a test leaves as long as it is passes it
filter-most : {X : Type 0} (p : X → Bool) (xs : List X) → length (filter p xs) ≤ length xs
filter-most p [] = omega arith
filter-most p (x ∷ xs) = by (p x) (filter-most p xs)
  where
    by : (b : Bool) → length (filter p xs) ≤ length xs → length (if b then x ∷ filter p xs else filter p xs) ≤ suc (length xs)
    by true most = omega (arith, most)
    by false most = omega (arith, most)

filter-all : {X : Type 0} (p : X → Bool) (xs : List X) → length xs ≤ length (filter p xs) → AllByRecursion (λ x. p x ≡ true) xs
filter-all p [] all = tt
filter-all p (x ∷ xs) all = by (p x) refl all (filter-most p xs) (filter-all p xs)
  where
    by : (b : Bool) → p x ≡ b → suc (length xs) ≤ length (if b then x ∷ filter p xs else filter p xs) → length (filter p xs) ≤ length xs → (length xs ≤ length (filter p xs) → AllByRecursion (λ y. p y ≡ true) xs) → (p x ≡ true) × AllByRecursion (λ y. p y ≡ true) xs
    by true e more most rest = (e, rest (omega (arith, more)))
    by false e more most rest = absurd (omega (arith, more, most))

-- the adopter's table is whole at once
adopter-has : (n : Network) (s : SessionState) (l : LastRoutes) → IsLed n s → IsSetOfMap s.world.links.cables l → has_table (adopted_by s.world l.mapper l.routes) l.mapper ≡ true
adopter-has n s l led k =
    let m : NodeState = record (node_at s.world l.mapper) { table = whole_table l.routes l.mapper (set_of s.world l).epoch } in
    let hosts : host_count s.world ≡ length s.world.links.cables.hosts = led.session.world.hosts in
    let there = k.is_host in
    ap (λ (x : NodeState). is_some x.table.active) (get_or-set_same s.world.nodes l.mapper m (new_node 0) (omega (arith, hosts, there)))

-- what is active in a world that has adopted a set
active-of : (n : Network) (a : Adoption) (v : WorldState) → IsReached n v → v.adopted ≡ Some a → (h : ℕ) (t : ActiveTable) → (node_at v h).table.active ≡ Some t → IsActiveOfSet a.epoch a.routes h t
active-of n a v reached adopted h t e = subst (λ o. IsActive o h t) adopted (active-of_set n v h t reached e)

line-so : (n : Network) (commands : List Command) (out : List Piece) (s next : SessionState) (tries acked total : ℕ) → IsFabric n → AllByRecursion (IsActOf n) commands → Runs (new_session n) commands out s → Prints s next tries acked total → IsInstalledLine s next tries acked total
line-so n commands out s next tries acked total f all r p =
    let w : WorldState = adopted_by s.world p.last.mapper p.last.routes in
    let can = run-can_install n commands out s p.last f all r p.are p.idle p.same in
    let there : next.world.injected < last_count → (installed (set_of s.world p.last) p.last.hosts tries w).1.injected < last_count = λ left. subst (λ v. v.injected < last_count) (sym (ap (λ x. x.1) p.counted)) left in
    let count : (installed (set_of s.world p.last) p.last.hosts tries w).0 ≡ acked = ap (λ x. x.0) p.counted in
    let most = counts-most (set_of s.world p.last) p.last.hosts tries w in
    let total_is = p.all in
    let led = run-led n commands out s f all r in
    let adopter = adopter-has n s p.last led (led.set p.last p.are) in
    let behind : (installed (set_of s.world p.last) p.last.hosts tries w).1 ≡ next.world = ap (λ x. x.1) p.counted in
    let has : (installed (set_of s.world p.last) p.last.hosts tries w).0 ≤ length (filter (has_table (installed (set_of s.world p.last) p.last.hosts tries w).1) p.last.hosts) = counts-tables (set_of s.world p.last) p.last.hosts tries w can adopter in
    let now : (installed (set_of s.world p.last) p.last.hosts tries w).0 ≤ length (filter (has_table next.world) p.last.hosts) = subst (λ v. (installed (set_of s.world p.last) p.last.hosts tries w).0 ≤ length (filter (has_table v) p.last.hosts)) behind has in
    let counted : came_to (log.install (set_of s.world p.last) p.last.hosts tries w) ≡ (acked, next.world) = p.counted in
    let first : Network = fabric_at w.links.cables 0 in
    let reached : IsReached first next.world = subst (IsReached first) behind (reached-further first w (log.install (set_of s.world p.last) p.last.hosts tries w).world can.reached (installed-of Leads along-leads (set_of s.world p.last) p.last.hosts tries w)) in
    let adopted : next.world.adopted ≡ Some (set_of s.world p.last) = sym (ap (λ v. v.adopted) behind) ∙ installed-set (set_of s.world p.last) p.last.hosts tries w in
    record {
      last = p.last;
      are = p.are;
      counted = sym (ap (λ x. x.0) counted);
      after = sym (ap (λ x. x.1) counted);
      all = p.all;
      at_most = omega (arith, most, count, total_is);
      tables = omega (arith, now, count);
      all_tables = λ e. filter-all (has_table next.world) p.last.hosts (omega (arith, now, count, total_is, e));
      of_set = active-of first (set_of s.world p.last) next.world reached adopted;
      cause = λ left. missed-harmed (set_of s.world p.last) p.last.hosts tries w can (there left);
      unharmed = λ some left same calm. sym count ∙ unharmed-all (set_of s.world p.last) p.last.hosts tries w can some (there left) (ap (λ x. x.1.harmed) p.counted ∙ same)
          (ap (λ x. x.1.links.cables.changes) p.counted ∙ calm ∙ sym (accepted-changes s.world.links (keeps_epoch s.world p.last.routes))) ∙ sym p.all;
    }

pub line-true : InstalledLineIsTrue
line-true n commands out rest s next tries acked total f all r d = line-so n commands out s next tries acked total f all r (does-install s next tries acked total rest (doing d))
