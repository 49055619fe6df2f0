-- What a session of a run holds names hosts of the fabric, is small, and rises: its last map, its last routes, and the adopted
-- ones.
use Rattle.std.proofs.Common.{◌≡◌, ◌<◌, ◌≤◌, ◌+◌, ℕ, zero, suc, Bool, true, false, List, [], ◌∷◌, length, nat_eq, nat_lt, Option, Some, None, cond, refl, sym, ap, ◌∙◌, subst, arith, ◌⊎◌, inl, inr}
use Rattle.std.specs.List.{AllByRecursion, filter, list_any, range_with_len}
use Rattle.std.proofs.lemmas.List.FromFn.{length-range_with_len}
use Rattle.net_defs.specs.declared.route.Route.{Route}
use Rattle.net_defs.specs.Network.{Network, IsFabric, has_vertex}
use Rattle.net_defs.specs.declared.vertex.Vertex.TheVariants.{Host}
use Rattle.net_defs.specs.RouteSet.{AreRising}
use Rattle.world_defs.specs.History.{fabric_at}
use Rattle.map_defs.specs.NetMap.{NetMap, hosts_of, switches_of}
use Rattle.map_defs.specs.Orientation.{order_of}
use Rattle.map_defs.specs.Routing.{AreRoutesOf}
use Rattle.map_laws.proofs.Size.{right_map_is_no_larger}
use Rattle.fab_script.specs.Ranges.{IsHost}
use Rattle.world_defs.specs.Table.{Adoption}
use Rattle.world_defs.specs.World.{fabric_of, host_count}
use Rattle.run_defs.specs.declared.command.Command.{Command}
use Rattle.run_defs.specs.Output.{Piece}
use Rattle.run_defs.specs.Session.{SessionState, LastMap, LastRoutes, is_complete, complete_map}
use Rattle.run_defs.specs.Outcome.{set_of}
use Rattle.run_defs.specs.Run.{Runs, IsRun, hosts_by_address}
use Rattle.run_defs.proofs.Doing.{Doing, doing}
use Rattle.run_defs.proofs.Doing.Doing.{determined, maps, circuits, routes}
use Rattle.run_defs.specs.Run.Runs.{ended, goes_on}
use Rattle.run_defs.specs.Headline.{FitsFabric}
use Rattle.mapping_laws.specs.Runs.{IsSessionOf}
use Rattle.mapping_laws.specs.Held.{HoldsRight}
use Rattle.mapping_laws.proofs.Made.{mapping_keeps}
use Rattle.mapping_laws.proofs.Sessions.{can-map-now, does-stays, new-session}
use Rattle.mapping_laws.proofs.Holding.{IsLastAdopted, HeldBy, outcome-held, does-hold, new-holds}
use Rattle.print_laws.specs.Printed.{IsPrintable}
use Rattle.print_laws.proofs.Pieces.{printable-of}
use Rattle.print_laws.proofs.ReadAgain.{made_map_is_printable}
use Rattle.judge_laws.specs.Answers.{IsRouteIn}
use Rattle.judge_laws.proofs.Names.{host-there}
use Rattle.judge_laws.proofs.RouteWalks.{routes-in}

-- hosts by address are below the number of hosts
rising-below : (start count most : ℕ) → start + count ≤ most → AllByRecursion (λ h. h < most) (range_with_len start count)
rising-below start zero most low = tt
rising-below start (suc count) most low = (omega arith, rising-below (start + 1) count most (omega arith))

filter-all : (P : ℕ → Type 0) (p : ℕ → Bool) (xs : List ℕ) → AllByRecursion P xs → AllByRecursion P (filter p xs)
filter-all P p [] all = tt
filter-all P p (x ∷ xs) all = by (p x) (filter-all P p xs all.1)
  where
    by : (t : Bool) → AllByRecursion P (filter p xs) → AllByRecursion P (cond t (x ∷ filter p xs) (filter p xs))
    by true rest = (all.0, rest)
    by false rest = rest

pub filter-few : (p : ℕ → Bool) (xs : List ℕ) → length (filter p xs) ≤ length xs
filter-few p [] = omega arith
filter-few p (x ∷ xs) = by (p x) (filter-few p xs)
  where
    by : (t : Bool) → length (filter p xs) ≤ length xs → length (cond t (x ∷ filter p xs) (filter p xs)) ≤ length (x ∷ xs)
    by true rest = omega arith
    by false rest = omega arith

-- The hosts of routes are hosts of the fabric, no more than it has.
pub record HasHosts (n : Network) (l : LastRoutes) : Type 0 where
  pub all : AllByRecursion (λ h. h < length n.hosts) l.hosts
  pub few : length l.hosts ≤ length n.hosts

-- A map has a host of the fabric for its mapper, and can be printed over the fabric.
pub record IsKept (n : Network) (l : LastMap) : Type 0 where
  pub mapper : l.mapper < length n.hosts
  pub printable : IsPrintable n l.made

pub count-of : (n : Network) (s : SessionState) → IsSessionOf n s → host_count s.world ≡ length n.hosts
count-of n s is = is.world.hosts ∙ ap (λ (x : Network). length x.hosts) is.first

-- as the text has hosts
pub all-hosts : (n : Network) (hs : List ℕ) → AllByRecursion (λ h. h < length n.hosts) hs → AllByRecursion (IsHost n) hs
all-hosts n [] all = tt
all-hosts n (h ∷ hs) all = (host-there n h all.0, all-hosts n hs all.1)

-- Routes between hosts of the fabric, by walks, that rise.
pub record AreFine (n : Network) (rs : List Route) : Type 0 where
  pub routes_in : AllByRecursion (IsRouteIn n) rs
  pub rising : AreRising rs

-- What a session holds is of the fabric.
pub record HoldsFine (n : Network) (s : SessionState) : Type 0 where
  pub map : (l : LastMap) → s.last_map ≡ Some l → IsKept n l
  pub hosts : (l : LastRoutes) → s.last_routes ≡ Some l → HasHosts n l
  pub routes : (l : LastRoutes) → s.last_routes ≡ Some l → AreFine n l.routes
  pub adopted : (a : Adoption) → s.world.adopted ≡ Some a → AreFine n a.routes

adopted-fine : (n : Network) (s : SessionState) (o : Option Adoption) → HoldsFine n s → (o ≡ s.world.adopted) ⊎ IsLastAdopted s o → (a : Adoption) → o ≡ Some a → AreFine n a.routes
adopted-fine n s o h (inl e) a is = h.adopted a (sym e ∙ is)
adopted-fine n s o h (inr k) a is = let one : set_of s.world k.last ≡ a = cc in subst (λ (x : Adoption). AreFine n x.routes) one (h.routes k.last k.are)

held-fine : (n : Network) (s next : SessionState) → HeldBy s next → HoldsFine n s → HoldsFine n next
held-fine n s next k h = record {
  map = λ l e. h.map l (sym k.last_map ∙ e);
  hosts = λ l e. h.hosts l (sym k.last_routes ∙ e);
  routes = λ l e. h.routes l (sym k.last_routes ∙ e);
  adopted = λ a e. adopted-fine n s next.world.adopted h k.adopted a e;
}

-- a map that was just made
made-kept : (n : Network) (r l : LastMap) → IsKept n r → Some r ≡ Some l → IsKept n l
made-kept n r l is e = let one : r ≡ l = cc in subst (IsKept n) one is

-- routes that were just computed
computed-hosts : (n : Network) (s : SessionState) (r l : LastRoutes) (m : NetMap) → IsSessionOf n s → r.hosts ≡ hosts_by_address s.world m → Some r ≡ Some l → HasHosts n l
computed-hosts n s r l m is own e =
    let one : r ≡ l = cc in
    let count = count-of n s is in
    let test : ℕ → Bool = λ h. list_any (nat_eq h) (hosts_of m.vertices) in
    let low : host_count s.world ≤ length n.hosts = omega arith in
    let few = filter-few (λ h. list_any (nat_eq h) (hosts_of m.vertices)) (range_with_len 0 (host_count s.world)) in
    let whole = length-range_with_len 0 (host_count s.world) in
    let same : length r.hosts ≡ length (hosts_by_address s.world m) = ap length own in
    subst (HasHosts n) one (record {
      all = subst (AllByRecursion (λ h. h < length n.hosts)) (sym own) (filter-all (λ h. h < length n.hosts) (λ h. list_any (nat_eq h) (hosts_of m.vertices)) (range_with_len 0 (host_count s.world)) (rising-below 0 (host_count s.world) (length n.hosts) (omega arith)));
      few = omega arith;
    })

computed-fine : (n : Network) (r l : LastRoutes) → AreFine n r.routes → Some r ≡ Some l → AreFine n l.routes
computed-fine n r l is e = let one : r ≡ l = cc in subst (λ (x : LastRoutes). AreFine n x.routes) one is

-- the last complete map is the last map
pub last-complete : (o : Option LastMap) (l : LastMap) → complete_map o ≡ Some l → o ≡ Some l
last-complete None l e = cc
last-complete (Some r) l e = by (is_complete r.words) e
  where
    by : (t : Bool) → cond t (Some r) None ≡ Some l → Some r ≡ Some l
    by true e = e
    by false e = cc

-- a right map has no more switches than the fabric
few-switches : (n : Network) (s : SessionState) (l : LastMap) → IsFabric n → IsSessionOf n s → HoldsRight s → HoldsFine n s → complete_map s.last_map ≡ Some l → length (switches_of l.made.vertices) ≤ 64
few-switches n s l f is right h complete =
    let k : Network = fabric_at s.world.links.cables l.began in
    let was = right.complete l complete in
    let kept = h.map l (last-complete s.last_map l complete) in
    let there : has_vertex k (Host l.mapper) ≡ true = subst (λ hs. nat_lt l.mapper (length hs) ≡ true) (sym (ap (λ (x : Network). x.hosts) is.first)) (host-there n l.mapper kept.mapper) in
    let small = right_map_is_no_larger k l.mapper l.made (is.history.fabrics l.began) there was.right.right in
    let most = (is.history.fabrics l.began).few_switches in
    let few = small.switches in
    omega arith

-- the routes of the last complete map
pub routes-fine : (n : Network) (s : SessionState) (l : LastMap) (found : List Route) → IsFabric n → IsSessionOf n s → HoldsRight s → HoldsFine n s → complete_map s.last_map ≡ Some l → AreRoutesOf l.made (order_of l.made) found → AreFine n found
routes-fine n s l found f is right h complete are =
    let was = right.complete l complete in
    let kept = h.map l (last-complete s.last_map l complete) in
    record {
      routes_in = routes-in n l.made was.right.rules was.right.connected kept.printable.hosts (few-switches n s l f is right h complete) found are.between_hosts are.least;
      rising = are.in_order;
    }

fine-so : {s next : SessionState} {c : Command} {out : List Piece} → (n : Network) → IsFabric n → FitsFabric n c → IsSessionOf n s → HoldsRight s → HoldsFine n s → Doing s c out next → HoldsFine n next
fine-so {s = s} {next = next} {c = c} {out = out} n f of_n is right h (determined e) = held-fine n s next (outcome-held s c (record { output = out; after = next }) e) h
fine-so {s = s} {next = next} n f of_n is right h (maps {host = host} {depth = depth} {tries = tries} after j m words idle made printed left) =
    let can = can-map-now n s host depth tries of_n is idle in
    let r : LastMap = record { mapper = host; words = words; made = m; began = s.world.links.cables.changes } in
    let set = (mapping_keeps host depth tries s.world after j m words can made).0.adopted in
    let printable = made_map_is_printable host depth tries s.world after j m words can made in
    subst (HoldsFine n) (sym left) (record {
      map = λ l e. made-kept n r l (record { mapper = of_n.0; printable = printable-of (fabric_of s.world) n m (ap (λ (x : Network). x.hosts) is.first) printable }) e;
      hosts = h.hosts;
      routes = h.routes;
      adopted = λ a e. h.adopted a (sym set ∙ e);
    })
fine-so n f of_n is right h (circuits told left) = subst (HoldsFine n) (sym left) h
fine-so {s = s} n f of_n is right h (routes l found complete are printed left) =
    let r : LastRoutes = record { mapper = l.mapper; hosts = hosts_by_address s.world l.made; routes = found; began = l.began } in
    subst (HoldsFine n) (sym left) (record {
      map = h.map;
      hosts = λ k e. computed-hosts n s r k l.made is refl e;
      routes = λ k e. computed-fine n r k (routes-fine n s l found f is right h complete are) e;
      adopted = h.adopted;
    })

runs-fine : {s last : SessionState} {cs : List Command} {out : List Piece} → (n : Network) → IsFabric n → AllByRecursion (FitsFabric n) cs → IsSessionOf n s → HoldsRight s → HoldsFine n s → Runs s cs out last → HoldsFine n last
runs-fine n f all is right h ended = h
runs-fine n f all is right h (goes_on d r e) = runs-fine n f all.1 (does-stays n all.0 is d) (does-hold n all.0 is right d) (fine-so n f all.0 is right h (doing d)) r

-- so it is after every run
pub run-fine : (n : Network) (commands : List Command) (out : List Piece) (s : SessionState) → IsFabric n → AllByRecursion (FitsFabric n) commands → IsRun n commands out s → HoldsFine n s
run-fine n commands out s f all r =
    runs-fine n f all (new-session n f) (new-holds n) (record { map = λ l e. cc; hosts = λ l e. cc; routes = λ l e. cc; adopted = λ a e. cc }) r
