-- How many routes a map of so many hosts has: one from each host to each other one.
use Rattle.std.proofs.Common.{◌≡◌, ◌≢◌, ◌≤◌, ◌<◌, ◌+◌, ◌*◌, ◌-◌, ◌⊎◌, inl, inr, ℕ, ℤ, zero, suc, Bool, true, false, ◌&&◌, ◌||◌, nat_lt, nat_eq, List, [], ◌∷◌, ◌++◌, map, length, length-append, Option, Some, None, refl, sym, ap, ◌∙◌, subst, suc-mul, zero-mul, arith}
use Rattle.std.specs.Prelude.{flat_map}
use Rattle.std.specs.List.{AllByRecursion, range_with_len}
use Rattle.std.proofs.lemmas.Bool.{cases_order}
use Rattle.std.proofs.lemmas.Bool.Decides.{nat_tests}
use Rattle.std.proofs.lemmas.List.{length-map}
use Rattle.std.proofs.lemmas.List.FromFn.{length-range_with_len}
use Rattle.net_defs.specs.declared.route.Route.{Route}
use Rattle.net_defs.specs.RouteSet.{route_below, AreRising as AreRisingRoutes, HasRoute}
use Rattle.journal_defs.proofs.Members.{IsMember, member-left, member-right, member-map, all-member, all-join, all-map}
use Rattle.map_defs.specs.NetMap.{NetMap, MapPort, host_of_vertex}
use Rattle.map_defs.specs.Routing.{LeadsTo, IsLeastLegal, AreRoutesOf, led_to, port_of_host}
use Rattle.map_laws.proofs.Landing.{port-host}
use Rattle.map_laws.proofs.OneMap.{AreRising, rising-one, place-member}

-- Numbers of a list rise, from a least one on and below a bound.
abbrev Rise : ℕ → ℕ → List ℕ → Type 0
Rise least most [] = least ≤ most
Rise least most (x ∷ xs) = (least ≤ x) × Rise (x + 1) most xs

rise-join : (least middle most : ℕ) (xs ys : List ℕ) → Rise least middle xs → Rise middle most ys → Rise least most (xs ++ ys)
rise-join least middle most [] [] r s = omega (arith, r, s)
rise-join least middle most [] (y ∷ ys) r s = let low = s.0 in (omega (arith, r, low), s.1)
rise-join least middle most (x ∷ xs) ys r s = (r.0, rise-join (x + 1) middle most xs ys r.1 s)

rise-wider : (least most more : ℕ) (xs : List ℕ) → most ≤ more → Rise least most xs → Rise least more xs
rise-wider least most more [] l r = omega (arith, l, r)
rise-wider least most more (x ∷ xs) l r = (r.0, rise-wider (x + 1) most more xs l r.1)

rise-range : (a k : ℕ) → Rise a (a + k) (range_with_len a k)
rise-range a zero = omega arith
rise-range a (suc k) = let same : a + 1 + k ≡ a + suc k = omega arith in (omega arith, subst (λ m. Rise (a + 1) m (range_with_len (a + 1) k)) same (rise-range (a + 1) k))

all-above : (least most : ℕ) (xs : List ℕ) (low : ℕ) → low < least → Rise least most xs → AllByRecursion (λ y. low < y) xs
all-above least most [] low l r = tt
all-above least most (x ∷ xs) low l r = let high = r.0 in (omega (arith, l, high), all-above (x + 1) most xs low (omega (arith, l, high)) r.1)

rise-rising : (least most : ℕ) (xs : List ℕ) → Rise least most xs → AreRising (λ x y. x < y) xs
rise-rising least most [] r = tt
rise-rising least most (x ∷ xs) r = (all-above (x + 1) most xs x (omega arith) r.1, rise-rising (x + 1) most xs r.1)

-- a pair of hosts as a number
abbrev pair : ℕ → ℕ → ℕ
pair a b = 128 * a + b

rise-pairs : (a least most : ℕ) (xs : List ℕ) → Rise least most xs → Rise (pair a least) (pair a most) (map (pair a) xs)
rise-pairs a least most [] r = omega (arith, r)
rise-pairs a least most (x ∷ xs) r =
    let low = r.0 in
    let same : pair a (x + 1) ≡ pair a x + 1 = omega arith in
    (omega (arith, low), subst (λ l. Rise l (pair a most) (map (pair a) xs)) same (rise-pairs a (x + 1) most xs r.1))

-- the numbers below one other than this, and the pairs of two numbers below one
abbrev others : ℕ → ℕ → List ℕ
others n a = range_with_len 0 a ++ range_with_len (a + 1) (n - 1 - a)

abbrev row : ℕ → ℕ → List ℕ
row n a = map (pair a) (others n a)

abbrev pairs : ℕ → List ℕ
pairs n = flat_map (row n) (range_with_len 0 n)

rise-others : (n a : ℕ) → a < n → Rise 0 n (others n a)
rise-others n a low =
    let behind : Rise (a + 1) (a + 1 + (n - 1 - a)) (range_with_len (a + 1) (n - 1 - a)) = rise-range (a + 1) (n - 1 - a) in
    let end : a + 1 + (n - 1 - a) ≡ n = omega (arith, low) in
    rise-join 0 (a + 1) n (range_with_len 0 a) (range_with_len (a + 1) (n - 1 - a)) (rise-wider 0 (0 + a) (a + 1) (range_with_len 0 a) (omega arith) (rise-range 0 a)) (subst (λ m. Rise (a + 1) m (range_with_len (a + 1) (n - 1 - a))) end behind)

long-others : (n a : ℕ) → a < n → length (others n a) ≡ n - 1
long-others n a low =
    let both = length-append (range_with_len 0 a) (range_with_len (a + 1) (n - 1 - a)) in
    let first = length-range_with_len 0 a in
    let second = length-range_with_len (a + 1) (n - 1 - a) in
    omega (arith, both, first, second, low)

-- the rows of the numbers from one on
rise-rows : (n a k : ℕ) → n ≤ 128 → a + k ≤ n → Rise (pair a 0) (pair (a + k) 0) (flat_map (row n) (range_with_len a k))
rise-rows n a zero few low = omega arith
rise-rows n a (suc k) few low =
    let here : Rise (pair a 0) (pair a n) (row n a) = rise-pairs a 0 n (others n a) (rise-others n a (omega (arith, low))) in
    let rest : Rise (pair (a + 1) 0) (pair (a + 1 + k) 0) (flat_map (row n) (range_with_len (a + 1) k)) = rise-rows n (a + 1) k few (omega (arith, low)) in
    let end : pair (a + 1 + k) 0 ≡ pair (a + suc k) 0 = omega arith in
    rise-join (pair a 0) (pair (a + 1) 0) (pair (a + suc k) 0) (row n a) (flat_map (row n) (range_with_len (a + 1) k)) (rise-wider (pair a 0) (pair a n) (pair (a + 1) 0) (row n a) (omega (arith, few)) here)
    (subst (λ m. Rise (pair (a + 1) 0) m (flat_map (row n) (range_with_len (a + 1) k))) end rest)

long-rows : (n a k : ℕ) → a + k ≤ n → length (flat_map (row n) (range_with_len a k)) ≡ k * (n - 1)
long-rows n a zero low = sym (zero-mul (n - 1))
long-rows n a (suc k) low =
    let both = length-append (row n a) (flat_map (row n) (range_with_len (a + 1) k)) in
    let here : length (row n a) ≡ n - 1 = length-map (others n a) (pair a) ∙ long-others n a (omega (arith, low)) in
    let rest = long-rows n (a + 1) k (omega (arith, low)) in
    let more = suc-mul k (n - 1) in
    omega (arith, both, here, rest, more)

-- what holds of each pair
each-from : (P : ℕ → Type 0) (a k : ℕ) → ((i : ℕ) → a ≤ i → i < a + k → P i) → AllByRecursion P (range_with_len a k)
each-from P a zero f = tt
each-from P a (suc k) f = (f a (omega arith) (omega arith), each-from P (a + 1) k (λ i low high. f i (omega (arith, low)) (omega (arith, high))))

each-row : (P : ℕ → Type 0) (n a : ℕ) → a < n → ((b : ℕ) → b < n → a ≢ b → P (pair a b)) → AllByRecursion P (row n a)
each-row P n a low f =
    all-map P (pair a) (others n a)
    (all-join (λ b. P (pair a b)) (range_with_len 0 a) (range_with_len (a + 1) (n - 1 - a)) (each-from (λ b. P (pair a b)) 0 a (λ b least most. f b (omega (arith, low, most)) (λ e. absurd (omega (arith, most, e)))))
    (each-from (λ b. P (pair a b)) (a + 1) (n - 1 - a) (λ b least most. f b (omega (arith, low, most)) (λ e. absurd (omega (arith, least, e))))))

each-pair : (P : ℕ → Type 0) (n a k : ℕ) → a + k ≤ n → ((x y : ℕ) → x < n → y < n → x ≢ y → P (pair x y)) → AllByRecursion P (flat_map (row n) (range_with_len a k))
each-pair P n a zero low f = tt
each-pair P n a (suc k) low f =
    all-join P (row n a) (flat_map (row n) (range_with_len (a + 1) k)) (each-row P n a (omega (arith, low)) (λ b. f a b (omega (arith, low)))) (each-pair P n (a + 1) k (omega (arith, low)) f)

-- each of them is there
in-range : (a k i : ℕ) → a ≤ i → i < a + k → IsMember i (range_with_len a k)
in-range a zero i low high = absurd (omega (arith, low, high))
in-range a (suc k) i low high = by (cases_order i a) (λ more. in-range (a + 1) k i more (omega (arith, high)))
  where
    by : (i ≡ a) ⊎ ((i < a) ⊎ (a < i)) → (a + 1 ≤ i → IsMember i (range_with_len (a + 1) k)) → IsMember i (a ∷ range_with_len (a + 1) k)
    by (inl e) rest = inl e
    by (inr (inl less)) rest = absurd (omega (arith, low, less))
    by (inr (inr more)) rest = inr (rest (omega (arith, more)))

in-flat : {X : Type 0} (f : X → List ℕ) (x : X) (xs : List X) (y : ℕ) → IsMember x xs → IsMember y (f x) → IsMember y (flat_map f xs)
in-flat f x [] y i j = absurd i
in-flat f x (z ∷ zs) y (inl e) j = member-left y (f z) (flat_map f zs) (subst (λ w. IsMember y (f w)) e j)
in-flat f x (z ∷ zs) y (inr i) j = member-right y (f z) (flat_map f zs) (in-flat f x zs y i j)

in-others : (n a b : ℕ) → a < n → b < n → a ≢ b → IsMember b (others n a)
in-others n a b low high apart = by (cases_order a b)
  where
    by : (a ≡ b) ⊎ ((a < b) ⊎ (b < a)) → IsMember b (others n a)
    by (inl e) = absurd (apart e)
    by (inr (inl less)) = member-right b (range_with_len 0 a) (range_with_len (a + 1) (n - 1 - a)) (in-range (a + 1) (n - 1 - a) b (omega (arith, less)) (omega (arith, low, high, less)))
    by (inr (inr more)) = member-left b (range_with_len 0 a) (range_with_len (a + 1) (n - 1 - a)) (in-range 0 a b (omega arith) (omega (arith, more)))

in-pairs : (n a b : ℕ) → a < n → b < n → a ≢ b → IsMember (pair a b) (pairs n)
in-pairs n a b low high apart = in-flat (row n) a (range_with_len 0 n) (pair a b) (in-range 0 n a (omega arith) (omega (arith, low))) (member-map (pair a) b (others n a) (in-others n a b low high apart))

-- A route between two hosts below a number.
record IsBetween (n : ℕ) (r : Route) : Type 0 where
  from : r.from < n
  to : r.to < n
  apart : r.from ≢ r.to

abbrev code : Route → ℕ
code r = pair r.from r.to

codes-there : (n : ℕ) (rs : List Route) → AllByRecursion (IsBetween n) rs → AllByRecursion (λ x. IsMember x (pairs n)) (map code rs)
codes-there n [] all = tt
codes-there n (r ∷ rs) all = let one : IsBetween n r = all.0 in (in-pairs n r.from r.to one.from one.to one.apart, codes-there n rs all.1)

code-below : (r s : Route) → r.to < 128 → route_below r s ≡ true → code r < code s
code-below r s low e = by (nat_lt r.from s.from) (nat_eq r.from s.from) (nat_lt r.to s.to) refl refl refl e
  where
    by : (a b c : Bool) → nat_lt r.from s.from ≡ a → nat_eq r.from s.from ≡ b → nat_lt r.to s.to ≡ c → (a || (b && c)) ≡ true → code r < code s
    by true b c f g h k = let less : r.from < s.from = grind (arith, nat_tests) in omega (arith, less, low)
    by false true true f g h k = let same : r.from ≡ s.from = grind (arith, nat_tests) in let less : r.to < s.to = grind (arith, nat_tests) in omega (arith, same, less)
    by false true false f g h k = cc
    by false false c f g h k = cc

codes-above : (r : Route) (rs : List Route) → r.to < 128 → AllByRecursion (λ s. route_below r s ≡ true) rs → AllByRecursion (λ y. code r < y) (map code rs)
codes-above r [] low all = tt
codes-above r (s ∷ ss) low all = (code-below r s low all.0, codes-above r ss low all.1)

codes-rise : (n : ℕ) (rs : List Route) → n ≤ 128 → AllByRecursion (IsBetween n) rs → AreRisingRoutes rs → AreRising (λ x y. x < y) (map code rs)
codes-rise n [] few all up = tt
codes-rise n (r ∷ rs) few all up =
    let one : IsBetween n r = all.0 in
    let to = one.to in
    (codes-above r rs (omega (arith, few, to)) up.0, codes-rise n rs few all.1 up.1)

route-code : (rs : List Route) (a b : ℕ) → HasRoute rs a b → IsMember (pair a b) (map code rs)
route-code rs a b h =
    let at : IsMember (code h.route) (map code rs) = member-map code h.route rs (place-member rs h.place h.route h.there) in
    subst (λ x. IsMember x (map code rs)) (λ i. pair (h.from i) (h.to i)) at

count-routes : (n : ℕ) (rs : List Route) → n ≤ 128 → AllByRecursion (IsBetween n) rs → AreRisingRoutes rs → ((a b : ℕ) → a < n → b < n → a ≢ b → HasRoute rs a b) → length rs ≡ n * (n - 1)
count-routes n rs few all up whole =
    let there : AllByRecursion (λ x. IsMember x (map code rs)) (pairs n) = each-pair (λ x. IsMember x (map code rs)) n 0 n (omega arith) (λ a b low high apart. route-code rs a b (whole a b low high apart)) in
    let same : map code rs ≡ pairs n =
    rising-one (λ x y. x < y) (λ x y less more. absurd (omega (arith, less, more))) (map code rs) (pairs n) (codes-rise n rs few all up) (rise-rising (pair 0 0) (pair (0 + n) 0) (pairs n) (rise-rows n 0 n few (omega arith)))
    (λ x i. all-member (λ y. IsMember y (pairs n)) x (map code rs) (codes-there n rs all) i) (λ x i. all-member (λ y. IsMember y (map code rs)) x (pairs n) there i) in
    sym (length-map rs code) ∙ ap length same ∙ long-rows n 0 n (omega arith)

-- the hosts of a map of all hosts below a number
host-in : (m : NetMap) (h : ℕ) (turns : List ℤ) (o : Option MapPort) (at : MapPort) → port_of_host m h ≡ o → led_to m o turns ≡ Some at → (v : ℕ) × (host_of_vertex m v ≡ Some h)
host-in m h turns None at e f = cc
host-in m h turns (Some d) at e f = (d.v, (port-host m h d e).0)

all-between : (n : ℕ) (m : NetMap) (order : List ℕ) (rs : List Route) → ((v h : ℕ) → host_of_vertex m v ≡ Some h → h < n) → AllByRecursion (λ r. IsLeastLegal m order r.from r.to r.walk) rs → AllByRecursion (λ r. r.from ≢ r.to) rs → AllByRecursion (IsBetween n) rs
all-between n m order [] below least apart = tt
all-between n m order (r ∷ rs) below least apart =
    let l : LeadsTo m r.from r.to r.walk = least.0.leads in
    let from = host-in m r.from r.walk (port_of_host m r.from) l.at refl l.led in
    let to = port-host m r.to l.at l.is_at in
    (record { from = below from.0 r.from from.1; to = below l.at.v r.to to.0; apart = apart.0 }, all-between n m order rs below least.1 apart.1)

-- its routes
pub map-routes-count : (n : ℕ) (m : NetMap) (order : List ℕ) (found : List Route) → n ≤ 128 → ((v h : ℕ) → host_of_vertex m v ≡ Some h → h < n) → ((h : ℕ) → h < n → (v : ℕ) × (host_of_vertex m v ≡ Some h)) → AreRoutesOf m order found → length found ≡ n * (n - 1)
map-routes-count n m order found few below there are =
    count-routes n found few (all-between n m order found below are.least are.between_hosts) are.in_order
    (λ a b low high apart. let v = there a low in let w = there b high in are.whole v.0 w.0 a b v.1 w.1 apart)
