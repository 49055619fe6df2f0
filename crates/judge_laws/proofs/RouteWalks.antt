-- The lines of the routes of a map are between hosts of the fabric, by walks, and few.
use Rattle.std.proofs.Common.{◌≡◌, ◌≢◌, ◌<◌, ◌≤◌, ◌+◌, ◌*◌, ℕ, suc, true, not, List, [], ◌∷◌, map, length, nat_lt, Option, Some, None, option_map, refl, sym, ap, ◌∙◌, true≢false, arith}
use Rattle.std.specs.Prelude.{ℤ, pos}
use Rattle.std.specs.List.{AllByRecursion}
use Rattle.std.proofs.lemmas.Bool.Decides.{nat_tests}
use Rattle.std.proofs.lemmas.List.{length-map}
use Rattle.net_defs.specs.declared.route.Route.{Route}
use Rattle.net_defs.specs.Network.{Network, IsFabric}
use Rattle.net_defs.specs.RouteSet.{route_below, AreRising}
use Rattle.net_defs.specs.Turn.{walk_refusal}
use Rattle.journal_defs.proofs.Asking.{not_apart}
use Rattle.map_defs.specs.NetMap.{NetMap, MapPort, IsMap, IsConnected, switches_of}
use Rattle.map_defs.specs.Orientation.{order_of, is_up}
use Rattle.map_defs.specs.Routing.{LeadsTo, IsLeastLegal, led_to, port_of_host, vertex_of_host}
use Rattle.map_canon.specs.Printing.{AreOfFabric}
use Rattle.map_canon.proofs.OfFabric.{host-of_fabric}
use Rattle.route_calc.specs.Ways.{best_turns}
use Rattle.route_calc.proofs.Best.{arrival}
use Rattle.route_calc.proofs.Few.{fewest}
use Rattle.route_calc.proofs.Least.{host-at, host_start, least-legal, best-walk}
use Rattle.route_calc.proofs.Starting.{start-there}
use Rattle.judge_laws.specs.Lines.{IsCounted}
use Rattle.judge_laws.specs.Answers.{IsRouteIn, AreRoutesRising}
use Rattle.judge_laws.proofs.Names.{host-there}

-- a pair of hosts has one least legal route
least-one : (m : NetMap) (order : List ℕ) (a b : ℕ) (v w : List ℤ) → IsLeastLegal m order a b v → IsLeastLegal m order a b w → v ≡ w
least-one m order a b v w least other =
    not_apart v w (λ below. true≢false (sym below ∙ other.least v least.leads least.legal)) (λ below. true≢false (sym below ∙ least.least w other.leads other.legal))

-- the vertex of a host whose port was found
vertex-found : (m : NetMap) (h : ℕ) (d : MapPort) → port_of_host m h ≡ Some d → vertex_of_host m h ≡ Some d.v
vertex-found m h d e = by (vertex_of_host m h) e
  where
    by : (o : Option ℕ) → option_map (λ v. record { v = v; p = pos 0 }) o ≡ Some d → o ≡ Some d.v
    by None e = cc
    by (Some v) e = let at : MapPort = record { v = v; p = pos 0 } in let one : at ≡ d = cc in ap (λ (x : MapPort). Some x.v) one

start-found : (m : NetMap) (a b : ℕ) (turns : List ℤ) → LeadsTo m a b turns → (v : ℕ) × (vertex_of_host m a ≡ Some v)
start-found m a b turns l = by (port_of_host m a) refl l.led
  where
    by : (o : Option MapPort) → port_of_host m a ≡ o → led_to m o turns ≡ Some l.at → (v : ℕ) × (vertex_of_host m a ≡ Some v)
    by None e f = cc
    by (Some d) e f = (d.v, vertex-found m a d e)

module _ (n : Network) (m : NetMap) (rules : IsMap m) (connected : IsConnected m) (of : AreOfFabric n m) (few : length (switches_of m.vertices) ≤ 64) where
  host-low : (h v : ℕ) → vertex_of_host m h ≡ Some v → h < length n.hosts
  host-low h v e = host-of_fabric n m.vertices v h of (host-at m h v e).host

  -- the least legal route is a walk
  least-walk : (a b : ℕ) (turns : List ℤ) → a ≢ b → IsLeastLegal m (order_of m) a b turns → walk_refusal turns ≡ None
  least-walk a b turns differ least =
      let from = start-found m a b turns least.leads in
      let va = from.0 in
      let vb = least.leads.at.v in
      let is_b = vertex-found m b least.leads.at least.leads.is_at in
      let s = start-there m va vb a b rules connected from.1 is_b differ in
      let down = not (is_up m (order_of m) (host_start va)) in
      let f = fewest m (order_of m) vb s.leads.channels s.entered.v down s.leads.near in
      let walk : List ℤ = best_turns m (order_of m) vb f.channels (arrival m (order_of m) (host_start va) s.entered) in
      let best : IsLeastLegal m (order_of m) a b walk = least-legal m (order_of m) f.channels va vb a b s.entered rules from.1 is_b s.far f.is in
      let fits : walk_refusal walk ≡ None = best-walk m (order_of m) vb f.channels (host_start va) s.entered down rules few s.far f.is in
      ap walk_refusal (least-one m (order_of m) a b turns walk least best) ∙ fits

  route-in : (r : Route) → r.from ≢ r.to → IsLeastLegal m (order_of m) r.from r.to r.walk → IsRouteIn n r
  route-in r differ least =
      let from = start-found m r.from r.to r.walk least.leads in
      let to = vertex-found m r.to least.leads.at least.leads.is_at in
      record {
        sender = host-there n r.from (host-low r.from from.0 from.1);
        receiver = host-there n r.to (host-low r.to least.leads.at.v to);
        is_walk = least-walk r.from r.to r.walk differ least;
      }

  pub routes-in : (rs : List Route) → AllByRecursion (λ r. r.from ≢ r.to) rs → AllByRecursion (λ r. IsLeastLegal m (order_of m) r.from r.to r.walk) rs → AllByRecursion (IsRouteIn n) rs
  routes-in [] differ least = tt
  routes-in (r ∷ rs) differ least = (route-in r differ.0 least.0, routes-in rs differ.1 least.1)

-- routes rise from one to the next
rising-from : (r : Route) (rs : List Route) → AllByRecursion (λ s. route_below r s ≡ true) rs → AreRising rs → AreRoutesRising (Some r) rs
rising-from r [] all rising = tt
rising-from r (s ∷ ss) all rising = (all.0, rising-from s ss rising.0 rising.1)

pub routes-rising : (rs : List Route) → AreRising rs → AreRoutesRising None rs
routes-rising [] rising = tt
routes-rising (r ∷ rs) rising = (refl, rising-from r rs rising.0 rising.1)

-- and there are at most as many as pairs of hosts
abbrev code : Route → ℕ
code r = 128 * r.from + r.to

code-below : (r s : Route) → r.to < 128 → s.to < 128 → route_below r s ≡ true → code r < code s
code-below r s one other e = grind (arith, nat_tests)

abbrev AreLow : List Route → Type 0
AreLow rs = AllByRecursion (λ r. (r.from < 128) × (r.to < 128)) rs

-- numbers that rise
abbrev pub AreNumbersRising : List ℕ → Type 0
AreNumbersRising [] = Unit {0}
AreNumbersRising (v ∷ vs) = AllByRecursion (λ w. v < w) vs × AreNumbersRising vs

codes-below : (r : Route) (rs : List Route) → r.to < 128 → AreLow rs → AllByRecursion (λ s. route_below r s ≡ true) rs → AllByRecursion (λ w. code r < w) (map code rs)
codes-below r [] one low all = tt
codes-below r (s ∷ ss) one low all = (code-below r s one low.0.1 all.0, codes-below r ss one low.1 all.1)

codes-rising : (rs : List Route) → AreLow rs → AreRising rs → AreNumbersRising (map code rs)
codes-rising [] low rising = tt
codes-rising (r ∷ rs) low rising = (codes-below r rs low.0.1 low.1 rising.0, codes-rising rs low.1 rising.1)

codes-low : (rs : List Route) → AreLow rs → AllByRecursion (λ v. v < 16384) (map code rs)
codes-low [] low = tt
codes-low (r ∷ rs) low = (by r.from r.to low.0.0 low.0.1, codes-low rs low.1)
  where
    by : (a b : ℕ) → a < 128 → b < 128 → 128 * a + b < 16384
    by a b l k = omega arith

from-next : (v : ℕ) (ws : List ℕ) → AllByRecursion (λ w. v < w) ws → AllByRecursion (λ w. suc v ≤ w) ws
from-next v [] all = tt
from-next v (w ∷ ws) all = (let l = all.0 in omega arith, from-next v ws all.1)

few-rising : (most k : ℕ) (vs : List ℕ) → k ≤ most → AllByRecursion (λ v. k ≤ v) vs → AllByRecursion (λ v. v < most) vs → AreNumbersRising vs → length vs + k ≤ most
few-rising most k [] fits above low rising = omega arith
few-rising most k (v ∷ vs) fits above low rising =
    let own = low.0 in
    let first = above.0 in
    let rest = few-rising most (suc v) vs (omega arith) (from-next v vs rising.0) low.1 rising.1 in
    omega arith

from-nothing : (vs : List ℕ) → AllByRecursion (λ v. 0 ≤ v) vs
from-nothing [] = tt
from-nothing (v ∷ vs) = (omega arith, from-nothing vs)

all-low : (n : Network) (rs : List Route) → IsFabric n → AllByRecursion (IsRouteIn n) rs → AreLow rs
all-low n [] f all = tt
all-low n (r ∷ rs) f all =
    let most = f.few_hosts in
    let sender : nat_lt r.from (length n.hosts) ≡ true = all.0.sender in
    let receiver : nat_lt r.to (length n.hosts) ≡ true = all.0.receiver in
    let one : r.from < length n.hosts = grind (arith, nat_tests) in
    let other : r.to < length n.hosts = grind (arith, nat_tests) in
    ((omega arith, omega arith), all-low n rs f all.1)

pub routes-counted : (n : Network) (rs : List Route) → IsFabric n → AllByRecursion (IsRouteIn n) rs → AreRising rs → IsCounted (length rs)
routes-counted n rs f all rising =
    let low = all-low n rs f all in
    let few = few-rising 16384 0 (map code rs) (omega arith) (from-nothing (map code rs)) (codes-low rs low) (codes-rising rs low rising) in
    let same = length-map rs code in
    omega arith
