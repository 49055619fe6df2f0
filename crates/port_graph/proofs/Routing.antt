-- Routes that rise, with one more, and where a route stands among them.
use Rattle.std.proofs.Common.{◌≡◌, ◌<◌, ◌≤◌, ℕ, zero, suc, ◌-◌, List, [], ◌∷◌, ◌++◌, Bool, true, false, ◌&&◌, ◌||◌, length, nat_eq, nat_lt, get_or, Some, None, refl, sym, subst, arith, if◌then◌else◌}
use Rattle.std.specs.Prelude.{slice_get}
use Rattle.std.specs.List.{AllByRecursion}
use Rattle.std.proofs.lemmas.Bool.Decides.{nat_tests}
use Rattle.net_defs.specs.declared.route.Route.{Route}
use Rattle.net_defs.proofs.Distinct.{all-push, all-weaker}
use Rattle.net_defs.specs.RouteSet.{route_below, AreRising}
use Rattle.port_graph.specs.Routes.{AreShort, is_above, goes, walk_of, walk_at}

below-trans : (a b c : Route) → route_below a b ≡ true → route_below b c ≡ true → route_below a c ≡ true
below-trans a b c e f = grind (arith, nat_tests)

-- a rising list stays so with one above its last
all-below : (rs : List Route) (r : Route) → AreRising rs → is_above (slice_get rs (length rs - 1)) r ≡ true → AllByRecursion (λ s. route_below s r ≡ true) rs
all-below [] r up e = tt
all-below (s ∷ []) r up e = (e, tt)
all-below (s ∷ t ∷ ts) r up e =
    let one : suc (suc (length ts)) - 1 ≡ suc (length ts) = omega arith in
    let two : length ts ≡ suc (length ts) - 1 = omega arith in
    let here : is_above (slice_get (s ∷ t ∷ ts) (suc (length ts))) r ≡ true = subst (λ k. is_above (slice_get (s ∷ t ∷ ts) k) r ≡ true) one e in
    let next : is_above (slice_get (t ∷ ts) (suc (length ts) - 1)) r ≡ true = subst (λ k. is_above (slice_get (t ∷ ts) k) r ≡ true) two here in
    let rest = all-below (t ∷ ts) r up.1 next in
    (below-trans s t r up.0.0 rest.0, rest)

rising-all : (rs : List Route) (r : Route) → AreRising rs → AllByRecursion (λ s. route_below s r ≡ true) rs → AreRising (rs ++ r ∷ [])
rising-all [] r up all = (tt, tt)
rising-all (s ∷ ss) r up all = (all-push (λ t. route_below s t ≡ true) ss r up.0 all.0, rising-all ss r up.1 all.1)

pub rising-push : (rs : List Route) (r : Route) → AreRising rs → is_above (slice_get rs (length rs - 1)) r ≡ true → AreRising (rs ++ r ∷ [])
rising-push rs r up e = rising-all rs r up (all-below rs r up e)

-- a route before one from a host to another, as a test of its addresses
abbrev pub is_before : ℕ → ℕ → Route → Bool
is_before from to r = nat_lt r.from from || (nat_eq r.from from && nat_lt r.to to)

before-other : (from to : ℕ) (r : Route) → is_before from to r ≡ true → goes from to r ≡ false
before-other from to r e = grind (arith, nat_tests)

before-trans : (from to : ℕ) (a b : Route) → route_below a b ≡ true → is_before from to b ≡ true → is_before from to a ≡ true
before-trans from to a b e f = grind (arith, nat_tests)

-- what comes before in a rising list is a part at its begin
pub partitioned : (rs : List Route) (from to : ℕ) → AreRising rs → (i j : ℕ) (d : Route) → i ≤ j → j < length rs → is_before from to (get_or rs j d) ≡ true → is_before from to (get_or rs i d) ≡ true
partitioned [] from to up i j d le lt e = absurd (omega arith)
partitioned (r ∷ rs) from to up zero zero d le lt e = e
partitioned (r ∷ rs) from to up zero (suc j) d le lt e = before-trans from to r (get_or rs j d) (each rs j up.0 (omega arith)) e
  where
    each : (ss : List Route) (k : ℕ) → AllByRecursion (λ s. route_below r s ≡ true) ss → k < length ss → route_below r (get_or ss k d) ≡ true
    each [] k all l = absurd (omega arith)
    each (s ∷ ss) zero all l = all.0
    each (s ∷ ss) (suc k) all l = each ss k all.1 (omega arith)
partitioned (r ∷ rs) from to up (suc i) zero d le lt e = absurd (omega arith)
partitioned (r ∷ rs) from to up (suc i) (suc j) d le lt e = partitioned rs from to up.1 i j d (omega arith) (omega arith) e

-- after one that doesn't come before, others than it don't go there
after-other : (from to : ℕ) (r s : Route) → is_before from to r ≡ false → route_below r s ≡ true → goes from to s ≡ false
after-other from to r s e f = grind (arith, nat_tests)

none-after : (rs : List Route) (from to : ℕ) → AllByRecursion (λ s. goes from to s ≡ false) rs → walk_of rs from to ≡ None
none-after [] from to all = refl
none-after (r ∷ rs) from to all = rw all.0 (none-after rs from to all.1)

pub walk-found : (rs : List Route) (from to k : ℕ) → AreRising rs → ((i : ℕ) (d : Route) → i < k → is_before from to (get_or rs i d) ≡ true) → ((i : ℕ) (d : Route) → k ≤ i → i < length rs → is_before from to (get_or rs i d) ≡ false) → walk_of rs from to ≡ walk_at (slice_get rs k) from to
walk-found [] from to k up low high = refl
walk-found (r ∷ rs) from to zero up low high =
    let here : is_before from to r ≡ false = high zero r (omega arith) (omega arith) in
    let rest : walk_of rs from to ≡ None = none-after rs from to (all-weaker (λ s. route_below r s ≡ true) (λ s. goes from to s ≡ false) rs (λ s. after-other from to r s here) up.0) in
    by (goes from to r) rest
  where
    by : (b : Bool) → walk_of rs from to ≡ None → (if b then Some r.walk else walk_of rs from to) ≡ (if b then Some r.walk else None)
    by true e = refl
    by false e = e
walk-found (r ∷ rs) from to (suc k) up low high =
    let other : goes from to r ≡ false = before-other from to r (low zero r (omega arith)) in
    rw other (walk-found rs from to k up.1 (λ i d l. low (suc i) d (omega arith)) (λ i d l m. high (suc i) d (omega arith) (omega arith)))

-- a push that may fail
pub rising-either : (b : Bool) (rs new : List Route) (r : Route) → new ≡ (if b then rs ++ r ∷ [] else rs) → AreRising rs → is_above (slice_get rs (length rs - 1)) r ≡ true → AreRising new
rising-either true rs new r e up above = subst AreRising (sym e) (rising-push rs r up above)
rising-either false rs new r e up above = subst AreRising (sym e) up

pub short-either : (b : Bool) (rs new : List Route) (r : Route) → new ≡ (if b then rs ++ r ∷ [] else rs) → AreShort rs → length r.walk ≤ 64 → AreShort new
short-either true rs new r e all short = subst AreShort (sym e) (all-push (λ s. length s.walk ≤ 64) rs r all short)
short-either false rs new r e all short = subst AreShort (sym e) all

pub past-end : (rs : List Route) (k : ℕ) → length rs ≤ k → slice_get rs k ≡ None
past-end [] k l = refl
past-end (r ∷ rs) zero l = absurd (omega arith)
past-end (r ∷ rs) (suc k) l = past-end rs k (omega arith)
