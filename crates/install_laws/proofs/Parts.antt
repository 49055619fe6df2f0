-- The parts that an installation sends: each is there, keeps the rules of bodies, and has a route to its host and one back.
use Rattle.std.proofs.Common.{◌≡◌, ◌≢◌, ◌<◌, ◌≤◌, ◌+◌, ◌*◌, ◌-◌, ◌^◌, ℕ, zero, suc, Bool, true, false, ◌&&◌, nat_eq, nat_lt, nat_le, List, [], ◌∷◌, length, take, drop, Some, refl, sym, ap, ◌∙◌, subst, arith, true≢false, if◌then◌else◌}
use Rattle.std.specs.Prelude.{ℤ, find, slice_get, option_map}
use Rattle.std.specs.List.{AllByRecursion, list_all}
use Rattle.std.proofs.lemmas.Bool.{and_parts, and_from}
use Rattle.std.proofs.lemmas.Bool.Decides.{nat_tests}
use Rattle.std.proofs.lemmas.List.{length-drop}
use Rattle.std.proofs.lemmas.Option.{same_Some}
use Rattle.net_defs.specs.declared.place.Place.TheVariants.{Host as AtHost}
use Rattle.net_defs.specs.declared.route.Route.{Route}
use Rattle.net_defs.specs.Network.{Network, IsFabric}
use Rattle.net_defs.specs.Turn.{is_turn, IsTurn}
use Rattle.net_defs.specs.Route.{place}
use Rattle.world_defs.specs.Mapping.{RouteEntry, RoutePart, is_route, are_entries, is_part}
use Rattle.net_defs.specs.RouteSet.{route_below, AreRising, HasRoute}
use Rattle.world_defs.specs.Table.{Adoption, route_of, entries_from, part_count, part_entries, part_for}
use Rattle.table_laws.proofs.Sets.{RouteFits, routes-fit, entries-all}
use Rattle.ask_laws.proofs.Tries.{place-there, below}
use Rattle.install_laws.specs.Premises.{IsJoined}

-- A route that leads to its host, by turns that fit into a packet.
pub record IsWay (n : Network) (r : Route) : Type 0 where
  pub fits : RouteFits r
  pub leads : place n r.from r.walk ≡ AtHost r.to
  pub few : length r.walk ≤ 64
  pub host : r.to < length n.hosts

pub are-ways : (n : Network) (rs : List Route) → IsFabric n → AllByRecursion (λ r. place n r.from r.walk ≡ AtHost r.to) rs → AllByRecursion (λ r. length r.walk ≤ 64) rs → AllByRecursion (IsWay n) rs
are-ways n rs f lead few = each rs (routes-fit n rs f lead) lead few
  where
    each : (rs : List Route) → AllByRecursion RouteFits rs → AllByRecursion (λ r. place n r.from r.walk ≡ AtHost r.to) rs → AllByRecursion (λ r. length r.walk ≤ 64) rs → AllByRecursion (IsWay n) rs
    each [] a b c = tt
    each (r ∷ rs) a b c = (record { fits = a.0; leads = b.0; few = c.0; host = place-there n r.from r.to r.walk f b.0 }, each rs a.1 b.1 c.1)

-- the first route that passes a test
first-found : (P : Route → Type 0) (test : Route → Bool) (rs : List Route) (k : ℕ) (r : Route) → AllByRecursion P rs → slice_get rs k ≡ Some r → test r ≡ true → (s : Route) × (find test rs ≡ Some s) × P s × (test s ≡ true)
first-found P test [] k r all at t = cc
first-found P test (x ∷ rs) k r all at t = by (test x) refl k at (λ j q. first-found P test rs j r all.1 q t)
  where
    Found : Bool → Type 0
    Found b = (s : Route) × ((if b then Some x else find test rs) ≡ Some s) × P s × (test s ≡ true)

    by : (b : Bool) → test x ≡ b → (k : ℕ) → slice_get (x ∷ rs) k ≡ Some r → ((j : ℕ) → slice_get rs j ≡ Some r → Found false) → Found b
    by true e k q rest = (x, refl, all.0, e)
    by false e zero q rest = let same : x ≡ r = same_Some x r q in absurd (true≢false (sym (ap test same ∙ t) ∙ e))
    by false e (suc k) q rest = rest k q

-- the way of a set from a host to another
pub record Way (n : Network) (routes : List Route) (from to : ℕ) : Type 0 where
  pub walk : List ℤ
  pub is : route_of routes from to ≡ Some walk
  pub leads : place n from walk ≡ AtHost to
  pub turns : list_all is_turn walk ≡ true
  pub few : length walk ≤ 64
  pub host : to < length n.hosts

number : (a b : ℕ) → nat_eq a b ≡ true → a ≡ b
number a b e = grind (arith, nat_tests)

pub way-of : (n : Network) (routes : List Route) (from to : ℕ) → AllByRecursion (IsWay n) routes → HasRoute routes from to → Way n routes from to
way-of n routes from to all has =
    let test : Route → Bool = λ r. nat_eq r.from from && nat_eq r.to to in
    let begins = has.from in
    let ends = has.to in
    let a : nat_eq has.route.from from ≡ true = grind (arith, nat_tests) in
    let b : nat_eq has.route.to to ≡ true = grind (arith, nat_tests) in
    let f = first-found (IsWay n) test routes has.place has.route all has.there (and_from (nat_eq has.route.from from) (nat_eq has.route.to to) a b) in
    let two = and_parts (nat_eq f.0.from from) (nat_eq f.0.to to) f.3 in
    let same_from : f.0.from ≡ from = number f.0.from from two.0 in
    let same_to : f.0.to ≡ to = number f.0.to to two.1 in
    record {
      walk = f.0.walk;
      is = ap (option_map (λ (r : Route). r.walk)) f.1;
      leads = ap (λ h. place n h f.0.walk) (sym same_from) ∙ f.2.leads ∙ ap AtHost same_to;
      turns = f.2.fits.turns;
      few = f.2.few;
      host = subst (λ h. h < length n.hosts) same_to f.2.host;
    }

-- entries that keep the rules, and name hosts of the fabric
pub record AreRuled (n : Network) (es : List RouteEntry) : Type 0 where
  pub rules : are_entries es ≡ true
  pub hosts : AllByRecursion (λ e. e.to < length n.hosts) es

walk-rules : (walk : List ℤ) → length walk ≤ 64 → list_all is_turn walk ≡ true → is_route walk ≡ true
walk-rules walk few all = let short : nat_le (length walk) 64 ≡ true = grind (arith, nat_tests) in rw (short, all) refl

all-above : (low : ℕ) (es : List RouteEntry) → AllByRecursion (λ e. nat_lt low e.to ≡ true) es → list_all (λ e. nat_lt low e.to) es ≡ true
all-above low [] all = refl
all-above low (e ∷ es) all = rw (all.0, all-above low es all.1) refl

to-above : (r s : Route) (from : ℕ) → nat_eq r.from from ≡ true → nat_eq s.from from ≡ true → route_below r s ≡ true → nat_lt r.to s.to ≡ true
to-above r s from a b l = grind (arith, nat_tests)

-- those from a host
abbrev filtered : Bool → RouteEntry → List RouteEntry → List RouteEntry
filtered b e es = if b then e ∷ es else es

entries-push : (host : ℕ) (r : Route) (rs : List Route) (b : Bool) → nat_eq r.from host ≡ b → entries_from (r ∷ rs) host ≡ filtered b (record { to = r.to; walk = r.walk }) (entries_from rs host)
entries-push host r rs true e = rw e refl
entries-push host r rs false e = rw e refl

entries-rules : (n : Network) (host : ℕ) (rs : List Route) → AreRising rs → AllByRecursion (IsWay n) rs → are_entries (entries_from rs host) ≡ true
entries-rules n host [] up all = refl
entries-rules n host (r ∷ rs) up all = by (nat_eq r.from host) refl (entries-rules n host rs up.1 all.1)
  where
    by : (b : Bool) → nat_eq r.from host ≡ b → are_entries (entries_from rs host) ≡ true → are_entries (entries_from (r ∷ rs) host) ≡ true
    by true e rest =
        let es : List RouteEntry = entries_from rs host in
        let above : list_all (λ d. nat_lt r.to d.to) es ≡ true = all-above r.to es (entries-all (λ s. route_below r s ≡ true) (λ d. nat_lt r.to d.to ≡ true) host rs (λ s f l. to-above r s host e f l) up.0) in
        let to : nat_lt r.to (2 ^ 16) ≡ true = below r.to (2 ^ 16) all.0.fits.to in
        ap are_entries (entries-push host r rs true e) ∙ rw (to, walk-rules r.walk all.0.few all.0.fits.turns, above, rest) refl
    by false e rest = ap are_entries (entries-push host r rs false e) ∙ rest

pub entries-ruled : (n : Network) (host : ℕ) (rs : List Route) → AreRising rs → AllByRecursion (IsWay n) rs → AreRuled n (entries_from rs host)
entries-ruled n host rs up all = record { rules = entries-rules n host rs up all; hosts = entries-all (IsWay n) (λ e. e.to < length n.hosts) host rs (λ r f w. w.host) all }

-- the rules of an entry and of those after it
record Ruled (e : RouteEntry) (es : List RouteEntry) : Type 0 where
  first : (nat_lt e.to (2 ^ 16) && is_route e.walk) ≡ true
  above : list_all (λ d. nat_lt e.to d.to) es ≡ true
  rest : are_entries es ≡ true

ruled-of : (e : RouteEntry) (es : List RouteEntry) → are_entries (e ∷ es) ≡ true → Ruled e es
ruled-of e es is = by (nat_lt e.to (2 ^ 16)) (is_route e.walk) (list_all (λ d. nat_lt e.to d.to) es) (are_entries es) refl refl refl refl is
  where
    by : (a b c d : Bool) → nat_lt e.to (2 ^ 16) ≡ a → is_route e.walk ≡ b → list_all (λ d. nat_lt e.to d.to) es ≡ c → are_entries es ≡ d → (a && b && c && d) ≡ true → Ruled e es
    by true true true true p q r s t = record { first = rw (p, q) refl; above = r; rest = s }
    by true true true false p q r s t = absurd (true≢false (sym t))
    by true true false d p q r s t = absurd (true≢false (sym t))
    by true false c d p q r s t = absurd (true≢false (sym t))
    by false b c d p q r s t = absurd (true≢false (sym t))

ruled-from : (e : RouteEntry) (es : List RouteEntry) → Ruled e es → are_entries (e ∷ es) ≡ true
ruled-from e es r = let two = and_parts (nat_lt e.to (2 ^ 16)) (is_route e.walk) r.first in rw (two.0, two.1, r.above, r.rest) refl

take-above : (low k : ℕ) (es : List RouteEntry) → list_all (λ d. nat_lt low d.to) es ≡ true → list_all (λ d. nat_lt low d.to) (take k es) ≡ true
take-above low zero es is = refl
take-above low (suc k) [] is = refl
take-above low (suc k) (e ∷ es) is = let two = and_parts (nat_lt low e.to) (list_all (λ d. nat_lt low d.to) es) is in rw (two.0, take-above low k es two.1) refl

take-ruled : (n : Network) (k : ℕ) (es : List RouteEntry) → AreRuled n es → AreRuled n (take k es)
take-ruled n zero es is = record { rules = refl; hosts = tt }
take-ruled n (suc k) [] is = is
take-ruled n (suc k) (e ∷ es) is =
    let r = ruled-of e es is.rules in
    let rest = take-ruled n k es (record { rules = r.rest; hosts = is.hosts.1 }) in
    record { rules = ruled-from e (take k es) (record { first = r.first; above = take-above e.to k es r.above; rest = rest.rules }); hosts = (is.hosts.0, rest.hosts) }

drop-ruled : (n : Network) (k : ℕ) (es : List RouteEntry) → AreRuled n es → AreRuled n (drop k es)
drop-ruled n zero es is = is
drop-ruled n (suc k) [] is = is
drop-ruled n (suc k) (e ∷ es) is = let r = ruled-of e es is.rules in drop-ruled n k es (record { rules = r.rest; hosts = is.hosts.1 })

-- entries that rise below a bound are few
few-above : (n : Network) (low : ℕ) (es : List RouteEntry) → low ≤ length n.hosts → are_entries es ≡ true → AllByRecursion (λ e. low ≤ e.to) es → AllByRecursion (λ e. e.to < length n.hosts) es → low + length es ≤ length n.hosts
few-above n low [] room is above all = omega (arith, room)
few-above n low (e ∷ es) room is above all =
    let r = ruled-of e es is in
    let first = above.0 in
    let high = all.0 in
    let rest = few-above n (e.to + 1) es (omega (arith, high)) r.rest (over es r.above) all.1 in
    omega (arith, first, rest)
  where
    over : (ds : List RouteEntry) → list_all (λ d. nat_lt e.to d.to) ds ≡ true → AllByRecursion (λ d. e.to + 1 ≤ d.to) ds
    over [] all = tt
    over (d ∷ ds) all = let two = and_parts (nat_lt e.to d.to) (list_all (λ d. nat_lt e.to d.to) ds) all in let t = two.0 in (grind (arith, nat_tests), over ds two.1)

all-above_zero : (es : List RouteEntry) → AllByRecursion (λ e. 0 ≤ e.to) es
all-above_zero [] = tt
all-above_zero (e ∷ es) = (omega arith, all-above_zero es)

pub few-entries : (n : Network) (es : List RouteEntry) → IsFabric n → AreRuled n es → length es ≤ 128
few-entries n es f is =
    let most = few-above n 0 es (omega arith) is.rules (all-above_zero es) is.hosts in
    let few = f.few_hosts in
    omega (arith, most, few)

-- from one to eight are taken
cut-size : (k : ℕ) (es : List RouteEntry) → (length (take k es) ≤ k) × (0 < k → 0 < length es → 0 < length (take k es))
cut-size zero es = (omega arith, λ a b. a)
cut-size (suc k) [] = (omega arith, λ a b. b)
cut-size (suc k) (e ∷ es) = let rest = (cut-size k es).0 in (omega (arith, rest), λ a b. omega arith)

hosts-below : (k : ℕ) (es : List RouteEntry) → AllByRecursion (λ e. e.to < k) es → list_all (λ e. nat_lt e.to k) es ≡ true
hosts-below k [] all = refl
hosts-below k (e ∷ es) all = rw (below e.to k all.0, hosts-below k es all.1) refl

-- A part that an installation sends to a host, with its ways.
pub record IsSent (n : Network) (a : Adoption) (dst part : ℕ) : Type 0 where
  pub sent : RoutePart
  pub way : List ℤ
  pub is : part_for a dst part ≡ Some sent
  pub way_is : route_of a.routes a.mapper dst ≡ Some way
  pub home_is : route_of a.routes dst a.mapper ≡ Some sent.back
  pub epoch : sent.epoch ≡ a.epoch
  pub fits : a.epoch < 2 ^ 32
  pub mapper : sent.mapper ≡ a.mapper
  pub to : sent.dst ≡ dst
  pub number : sent.part ≡ part
  pub parts : sent.parts ≡ part_count (length (entries_from a.routes dst))
  pub few_parts : part < 256
  pub adopter : a.mapper < length n.hosts
  pub host : dst < length n.hosts
  pub there : place n a.mapper way ≡ AtHost dst
  pub home : place n dst sent.back ≡ AtHost a.mapper
  pub turns : AllByRecursion IsTurn way
  pub home_turns : AllByRecursion IsTurn sent.back
  pub rules : is_part sent ≡ true
  pub known : list_all (λ e. nat_lt e.to (length n.hosts)) sent.entries ≡ true

are-turns : (walk : List ℤ) → list_all is_turn walk ≡ true → AllByRecursion IsTurn walk
are-turns [] all = tt
are-turns (t ∷ walk) all = let two = and_parts (is_turn t) (list_all is_turn walk) all in (two.0, are-turns walk two.1)

pub sent-part : (n : Network) (a : Adoption) (dst part : ℕ) → IsFabric n → a.epoch < 2 ^ 32 → AreRising a.routes → AllByRecursion (IsWay n) a.routes → dst ≢ a.mapper → IsJoined a dst → part < part_count (length (entries_from a.routes dst)) → IsSent n a dst part
sent-part n a dst part f fit up all other joined low =
    let es : List RouteEntry = entries_from a.routes dst in
    let mine : List RouteEntry = part_entries es part in
    let there = way-of n a.routes a.mapper dst all joined.there in
    let back = way-of n a.routes dst a.mapper all joined.back in
    let p : RoutePart = record { epoch = a.epoch; mapper = a.mapper; dst = dst; part = part; parts = part_count (length es); back = back.walk; entries = mine } in
    let away : nat_eq dst a.mapper ≡ false = grind (arith, nat_tests) in
    let inside : nat_lt part (part_count (length es)) ≡ true = below part (part_count (length es)) low in
    let ruled = entries-ruled n dst a.routes up all in
    let few = few-entries n es f ruled in
    let cut = take-ruled n 8 (drop (8 * part) es) (drop-ruled n (8 * part) es ruled) in
    let size = cut-size 8 (drop (8 * part) es) in
    let left : length (drop (8 * part) es) ≡ length es - 8 * part = length-drop (8 * part) es in
    let sixteen : part_count (length es) ≤ 16 = omega (arith, few) in
    let some : 0 < length mine = size.1 (omega arith) (omega (arith, left, low)) in
    let eight : length mine ≤ 8 = size.0 in
    let hosts = f.few_hosts in
    let dst_low = there.host in
    let mapper_low = back.host in
    let x : nat_lt a.epoch (2 ^ 32) ≡ true = below a.epoch (2 ^ 32) fit in
    let y : nat_lt a.mapper (2 ^ 16) ≡ true = below a.mapper (2 ^ 16) (omega (arith, mapper_low, hosts)) in
    let z : nat_lt dst (2 ^ 16) ≡ true = below dst (2 ^ 16) (omega (arith, dst_low, hosts)) in
    let q : nat_le (part_count (length es)) 16 ≡ true = grind (arith, nat_tests) in
    let least : nat_le 1 (length mine) ≡ true = grind (arith, nat_tests) in
    let most : nat_le (length mine) 8 ≡ true = grind (arith, nat_tests) in
    record {
      sent = p;
      way = there.walk;
      is = rw (away, inside, back.is) refl;
      way_is = there.is;
      home_is = back.is;
      epoch = refl;
      fits = fit;
      mapper = refl;
      to = refl;
      number = refl;
      parts = refl;
      few_parts = omega (arith, low, sixteen);
      adopter = mapper_low;
      host = dst_low;
      there = there.leads;
      home = back.leads;
      turns = are-turns there.walk there.turns;
      home_turns = are-turns back.walk back.turns;
      rules = rw (x, y, z, inside, q, walk-rules back.walk back.few back.turns, least, most, cut.rules) refl;
      known = hosts-below (length n.hosts) mine cut.hosts;
    }
