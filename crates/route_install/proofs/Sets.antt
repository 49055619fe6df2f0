-- A set over hosts has as many routes from each host as there are other hosts.
use Rattle.std.proofs.Common.{◌≡◌, ◌<◌, ◌-◌, ℕ, suc, List, [], ◌∷◌, Bool, true, false, not, ◌&&◌, ◌||◌, length, map, nat_eq, nat_lt, refl, ap, sym, subst, ◌∙◌, arith, if◌then◌else◌}
use Rattle.std.specs.List.{AllByRecursion, filter, list_any}
use Rattle.std.proofs.lemmas.Bool.Decides.{nat_tests}
use Rattle.std.proofs.lemmas.List.{length-map}
use Rattle.net_defs.specs.declared.route.Route.{Route}
use Rattle.net_defs.specs.RouteSet.{route_below, AreRising}
use Rattle.world_defs.specs.Table.{entries_from, part_count}
use Rattle.route_install.specs.Installing.{AreHosts}
use Rattle.route_install.specs.Laws.{IsSetOver, EachHostHasItsParts}
use Rattle.route_install.proofs.Cutting.{entry}

-- no number below a rising list's is in it
not-below : (n : ℕ) (xs : List ℕ) → AllByRecursion (λ x. n < x) xs → list_any (nat_eq n) xs ≡ false
not-below n [] all = refl
not-below n (x ∷ xs) all =
    let l : n < x = all.0 in
    let e : nat_eq n x ≡ false = grind (arith, nat_tests) in
    rw e (not-below n xs all.1)

lower : (n m : ℕ) (xs : List ℕ) → n < m → AllByRecursion (λ x. m < x) xs → AllByRecursion (λ x. n < x) xs
lower n m [] l all = tt
lower n m (x ∷ xs) l all = let h : m < x = all.0 in (omega arith, lower n m xs l all.1)

-- rising lists with the same members are one
same-first : (x y : ℕ) (xs ys : List ℕ) → AreHosts (x ∷ xs) → AreHosts (y ∷ ys) → ((n : ℕ) → list_any (nat_eq n) (x ∷ xs) ≡ list_any (nat_eq n) (y ∷ ys)) → x ≡ y
same-first x y xs ys ups uqs e = by (nat_lt x y) (nat_lt y x) refl refl
  where
    own : (n : ℕ) (ns : List ℕ) → list_any (nat_eq n) (n ∷ ns) ≡ true
    own n ns = let t : nat_eq n n ≡ true = grind (arith, nat_tests) in rw t refl

    by : (a b : Bool) → nat_lt x y ≡ a → nat_lt y x ≡ b → x ≡ y
    by true b p q =
        let l : x < y = grind (arith, nat_tests) in
        let none = not-below x (y ∷ ys) (l, lower x y ys l uqs.0) in
        let there = sym (own x xs) ∙ e x ∙ none in
        cc
    by false true p q =
        let l : y < x = grind (arith, nat_tests) in
        let none = not-below y (x ∷ xs) (l, lower y x xs l ups.0) in
        let there = sym (own y ys) ∙ sym (e y) ∙ none in
        cc
    by false false p q = grind (arith, nat_tests)

rising-equal : (xs ys : List ℕ) → AreHosts xs → AreHosts ys → ((n : ℕ) → list_any (nat_eq n) xs ≡ list_any (nat_eq n) ys) → xs ≡ ys
rising-equal [] [] a b e = refl
rising-equal [] (y ∷ ys) a b e =
    let t : nat_eq y y ≡ true = grind (arith, nat_tests) in
    let there : (nat_eq y y || list_any (nat_eq y) ys) ≡ true = rw t refl in
    let none = e y ∙ there in
    cc
rising-equal (x ∷ xs) [] a b e =
    let t : nat_eq x x ≡ true = grind (arith, nat_tests) in
    let there : (nat_eq x x || list_any (nat_eq x) xs) ≡ true = rw t refl in
    let none = sym (e x) ∙ there in
    cc
rising-equal (x ∷ xs) (y ∷ ys) a b e =
    let one : x ≡ y = same-first x y xs ys a b e in
    (λ i. one i ∷ xs) ∙ ap (λ l. y ∷ l) (rising-equal xs ys a.1 b.1 (λ n. tails n (nat_eq n y) refl one))
  where
    tails : (n : ℕ) (t : Bool) → nat_eq n y ≡ t → x ≡ y → list_any (nat_eq n) xs ≡ list_any (nat_eq n) ys
    tails n true t one =
        let s : n ≡ y = grind (arith, nat_tests) in
        let r : n ≡ x = s ∙ sym one in
        not-below n xs (subst (λ k. AllByRecursion (λ z. k < z) xs) (sym r) a.0) ∙ sym (not-below n ys (subst (λ k. AllByRecursion (λ z. k < z) ys) (sym s) b.0))
    tails n false t one =
        let s : nat_eq n x ≡ false = ap (nat_eq n) one ∙ t in
        sym (ap (λ c. c || list_any (nat_eq n) xs) s) ∙ e n ∙ ap (λ c. c || list_any (nat_eq n) ys) t

-- the receivers of a host's routes rise
above-filter : (n : ℕ) (t : ℕ → Bool) (xs : List ℕ) → AllByRecursion (λ x. n < x) xs → AllByRecursion (λ x. n < x) (filter t xs)
above-filter n t [] all = tt
above-filter n t (x ∷ xs) all = by (t x) (above-filter n t xs all.1)
  where
    by : (b : Bool) → AllByRecursion (λ x. n < x) (filter t xs) → AllByRecursion (λ x. n < x) (if b then x ∷ filter t xs else filter t xs)
    by true r = (all.0, r)
    by false r = r

hosts-filter : (t : ℕ → Bool) (xs : List ℕ) → AreHosts xs → AreHosts (filter t xs)
hosts-filter t [] up = tt
hosts-filter t (x ∷ xs) up = by (t x) (hosts-filter t xs up.1)
  where
    by : (b : Bool) → AreHosts (filter t xs) → AreHosts (if b then x ∷ filter t xs else filter t xs)
    by true r = (above-filter x t xs up.0, r)
    by false r = r

abbrev receivers : ℕ → List Route → List ℕ
receivers h rs = map (λ r. r.to) (filter (λ r. nat_eq r.from h) rs)

receivers-above : (h : ℕ) (r : Route) (rs : List Route) → r.from ≡ h → AllByRecursion (λ s. route_below r s ≡ true) rs → AllByRecursion (λ x. r.to < x) (receivers h rs)
receivers-above h r [] e all = tt
receivers-above h r (s ∷ rs) e all = by (nat_eq s.from h) refl (receivers-above h r rs e all.1)
  where
    here : (r s : Route) → r.from ≡ h → nat_eq s.from h ≡ true → route_below r s ≡ true → r.to < s.to
    here r s e t l = grind (arith, nat_tests)

    by : (b : Bool) → nat_eq s.from h ≡ b → AllByRecursion (λ x. r.to < x) (receivers h rs) → AllByRecursion (λ x. r.to < x) (map (λ r. r.to) (if b then s ∷ filter (λ r. nat_eq r.from h) rs else filter (λ r. nat_eq r.from h) rs))
    by true t rest = (here r s e t all.0, rest)
    by false t rest = rest

receivers-rise : (h : ℕ) (rs : List Route) → AreRising rs → AreHosts (receivers h rs)
receivers-rise h [] up = tt
receivers-rise h (r ∷ rs) up = by (nat_eq r.from h) refl (receivers-rise h rs up.1)
  where
    by : (b : Bool) → nat_eq r.from h ≡ b → AreHosts (receivers h rs) → AreHosts (map (λ r. r.to) (if b then r ∷ filter (λ r. nat_eq r.from h) rs else filter (λ r. nat_eq r.from h) rs))
    by true t rest = (receivers-above h r rs (grind (arith, nat_tests)) up.0, rest)
    by false t rest = rest

flip : (n m : ℕ) → nat_eq n m ≡ nat_eq m n
flip n m = by (nat_eq n m) (nat_eq m n) refl refl
  where
    by : (a b : Bool) → nat_eq n m ≡ a → nat_eq m n ≡ b → a ≡ b
    by true true p q = refl
    by true false p q = absurd (grind (arith, nat_tests))
    by false true p q = absurd (grind (arith, nat_tests))
    by false false p q = refl

-- a receiver has a route from the host
received : (h n : ℕ) (rs : List Route) → list_any (nat_eq n) (receivers h rs) ≡ list_any (λ r. nat_eq r.from h && nat_eq r.to n) rs
received h n [] = refl
received h n (r ∷ rs) = by (nat_eq r.from h) (received h n rs)
  where
    by : (b : Bool) → list_any (nat_eq n) (receivers h rs) ≡ list_any (λ r. nat_eq r.from h && nat_eq r.to n) rs → list_any (nat_eq n) (map (λ r. r.to) (if b then r ∷ filter (λ r. nat_eq r.from h) rs else filter (λ r. nat_eq r.from h) rs)) ≡ ((b && nat_eq r.to n) || list_any (λ r. nat_eq r.from h && nat_eq r.to n) rs)
    by true e = ap (λ c. c || list_any (nat_eq n) (receivers h rs)) (flip n r.to) ∙ ap (λ c. nat_eq r.to n || c) e
    by false e = e

-- and the others are the hosts but this one
others-member : (h n : ℕ) (hs : List ℕ) → list_any (nat_eq n) (filter (λ g. not (nat_eq g h)) hs) ≡ (not (nat_eq n h) && list_any (nat_eq n) hs)
others-member h n [] = off (not (nat_eq n h))
  where
    off : (b : Bool) → false ≡ (b && false)
    off true = refl
    off false = refl
others-member h n (g ∷ hs) = by (nat_eq g h) (nat_eq n h) (nat_eq n g) refl refl refl (others-member h n hs)
  where
    by : (a b c : Bool) → nat_eq g h ≡ a → nat_eq n h ≡ b → nat_eq n g ≡ c → list_any (nat_eq n) (filter (λ g. not (nat_eq g h)) hs) ≡ (not (nat_eq n h) && list_any (nat_eq n) hs)
        → list_any (nat_eq n) (if not a then g ∷ filter (λ g. not (nat_eq g h)) hs else filter (λ g. not (nat_eq g h)) hs) ≡ (not b && (c || list_any (nat_eq n) hs))
    by true true c p q r e = e ∙ ap (λ b. not b && list_any (nat_eq n) hs) q
    by true false true p q r e = absurd (grind (arith, nat_tests))
    by true false false p q r e = e ∙ ap (λ b. not b && list_any (nat_eq n) hs) q
    by false true true p q r e = absurd (grind (arith, nat_tests))
    by false true false p q r e = ap (λ c. c || list_any (nat_eq n) (filter (λ g. not (nat_eq g h)) hs)) r ∙ e ∙ ap (λ b. not b && list_any (nat_eq n) hs) q
    by false false c p q r e = ap (λ c. c || list_any (nat_eq n) (filter (λ g. not (nat_eq g h)) hs)) r ∙ ap (λ b. c || b) (e ∙ ap (λ b. not b && list_any (nat_eq n) hs) q)

keep-all : (h : ℕ) (gs : List ℕ) → AllByRecursion (λ g. h < g) gs → filter (λ g. not (nat_eq g h)) gs ≡ gs
keep-all h [] all = refl
keep-all h (g ∷ gs) all =
    let l : h < g = all.0 in
    let e : nat_eq g h ≡ false = grind (arith, nat_tests) in
    rw e (ap (λ l. g ∷ l) (keep-all h gs all.1))

others-count : (h : ℕ) (hs : List ℕ) → AreHosts hs → list_any (nat_eq h) hs ≡ true → suc (length (filter (λ g. not (nat_eq g h)) hs)) ≡ length hs
others-count h [] up any = cc
others-count h (g ∷ hs) up any = by (nat_eq g h) refl (λ a. others-count h hs up.1 a)
  where
    by : (b : Bool) → nat_eq g h ≡ b → (list_any (nat_eq h) hs ≡ true → suc (length (filter (λ g. not (nat_eq g h)) hs)) ≡ length hs) → suc (length (if not b then g ∷ filter (λ g. not (nat_eq g h)) hs else filter (λ g. not (nat_eq g h)) hs)) ≡ suc (length hs)
    by true t ih =
        let s : g ≡ h = grind (arith, nat_tests) in
        ap (λ (l : List ℕ). suc (length l)) (keep-all h hs (subst (λ k. AllByRecursion (λ x. k < x) hs) s up.0))
    by false t ih =
        let s : nat_eq h g ≡ false = flip h g ∙ t in
        ap (λ k. suc k) (ih (sym (ap (λ c. c || list_any (nat_eq h) hs) s) ∙ any))

-- no route goes to its own sender, and none to what is no host
none-own : (hosts : List ℕ) (h : ℕ) (rs : List Route) → AllByRecursion (λ r. (list_any (nat_eq r.from) hosts ≡ true) × (list_any (nat_eq r.to) hosts ≡ true) × (nat_eq r.from r.to ≡ false)) rs → list_any (λ r. nat_eq r.from h && nat_eq r.to h) rs ≡ false
none-own hosts h [] all = refl
none-own hosts h (r ∷ rs) all =
    let d : nat_eq r.from r.to ≡ false = all.0.2 in
    let e : (nat_eq r.from h && nat_eq r.to h) ≡ false = grind (arith, nat_tests) in
    rw e (none-own hosts h rs all.1)

none-outside : (hosts : List ℕ) (h n : ℕ) (rs : List Route) → list_any (nat_eq n) hosts ≡ false → AllByRecursion (λ r. (list_any (nat_eq r.from) hosts ≡ true) × (list_any (nat_eq r.to) hosts ≡ true) × (nat_eq r.from r.to ≡ false)) rs → list_any (λ r. nat_eq r.from h && nat_eq r.to n) rs ≡ false
none-outside hosts h n [] out all = refl
none-outside hosts h n (r ∷ rs) out all = by (nat_eq r.to n) refl (none-outside hosts h n rs out all.1)
  where
    off : (b c : Bool) → c ≡ false → (b && c) ≡ false
    off true c e = e
    off false c e = refl

    by : (b : Bool) → nat_eq r.to n ≡ b → list_any (λ s. nat_eq s.from h && nat_eq s.to n) rs ≡ false → ((nat_eq r.from h && nat_eq r.to n) || list_any (λ s. nat_eq s.from h && nat_eq s.to n) rs) ≡ false
    by true t e =
        let s : r.to ≡ n = grind (arith, nat_tests) in
        let there = sym (ap (λ k. list_any (nat_eq k) hosts) s) ∙ all.0.1 in
        let none = sym out ∙ there in
        cc
    by false t e = ap (λ c. c || list_any (λ s. nat_eq s.from h && nat_eq s.to n) rs) (off (nat_eq r.from h) (nat_eq r.to n) t) ∙ e

same-members : (hosts : List ℕ) (rs : List Route) (h : ℕ) → IsSetOver hosts rs → list_any (nat_eq h) hosts ≡ true → (n : ℕ) → list_any (nat_eq n) (receivers h rs) ≡ list_any (nat_eq n) (filter (λ g. not (nat_eq g h)) hosts)
same-members hosts rs h set here n = received h n rs ∙ by (nat_eq n h) (list_any (nat_eq n) hosts) refl refl ∙ sym (others-member h n hosts)
  where
    by : (a b : Bool) → nat_eq n h ≡ a → list_any (nat_eq n) hosts ≡ b → list_any (λ r. nat_eq r.from h && nat_eq r.to n) rs ≡ (not (nat_eq n h) && list_any (nat_eq n) hosts)
    by true b p q =
        let s : h ≡ n = grind (arith, nat_tests) in
        ap (λ k. list_any (λ r. nat_eq r.from h && nat_eq r.to k) rs) (sym s) ∙ none-own hosts h rs set.only ∙ sym (ap (λ c. not c && list_any (nat_eq n) hosts) p)
    by false true p q = set.each h n here q (flip h n ∙ p) ∙ sym (rw (p, q) refl)
    by false false p q = none-outside hosts h n rs q set.only ∙ sym (rw (p, q) refl)

pub each-host : EachHostHasItsParts
each-host a hosts h up set here =
    let e : receivers h a.routes ≡ filter (λ g. not (nat_eq g h)) hosts = rising-equal (receivers h a.routes) (filter (λ g. not (nat_eq g h)) hosts) (receivers-rise h a.routes set.rising) (hosts-filter (λ g. not (nat_eq g h)) hosts up) (same-members hosts a.routes h set here) in
    let routes : List Route = filter (λ r. nat_eq r.from h) a.routes in
    let one : length (entries_from a.routes h) ≡ length routes = length-map routes entry in
    let two : length (receivers h a.routes) ≡ length routes = length-map routes (λ r. r.to) in
    let three : length (receivers h a.routes) ≡ length (filter (λ g. not (nat_eq g h)) hosts) = ap length e in
    let count = others-count h hosts up here in
    let all : length (entries_from a.routes h) ≡ length hosts - 1 = omega arith in
    ap part_count all
