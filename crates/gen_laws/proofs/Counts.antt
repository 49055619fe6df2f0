-- How many of a list pass a test, group by group; and how many messages of a generated text each host sends, and how many go to it.
use Rattle.std.proofs.Common.{◌≡◌, ◌≤◌, ◌<◌, ◌+◌, ◌-◌, ◌*◌, ◌%◌, ℕ, zero, suc, Bool, true, false, ◌&&◌, List, [], ◌∷◌, ◌++◌, map, length, length-append, replicate, nat_eq, nat_le, refl, sym, ap, ◌∙◌, arith, true≢false, if◌then◌else◌}
use Rattle.std.specs.List.{AllByRecursion, filter, range_with_len}
use Rattle.std.proofs.Math.Nat.{mod-eq_of_lt, add-mod_right, mod-lt}
use Rattle.std.proofs.lemmas.Bool.Decides.{nat_tests}
use Rattle.std.proofs.lemmas.List.Elements.{filter-append}
use Rattle.std.proofs.lemmas.List.FromFn.{length-range_with_len}
use Rattle.fabric_gen.specs.Text.{below, peer}
use Rattle.fabric_gen.proofs.Messages.{one-sender}
use Rattle.delivery_laws.proofs.Counts.{total, total-add, total-zero, count_of, one_if, count-cons}

-- two lists, and a list of one element
pub count-append : {A : Type 0} (test : A → Bool) (xs ys : List A) → count_of test (xs ++ ys) ≡ count_of test xs + count_of test ys
count-append test xs ys = ap length (filter-append test xs ys) ∙ length-append (filter test xs) (filter test ys)

pub count-all : {A : Type 0} (test : A → Bool) (x : A) (k : ℕ) → test x ≡ true → count_of test (replicate k x) ≡ k
count-all test x zero e = refl
count-all test x (suc k) e =
    let one = count-cons test x (replicate k x) ∙ ap (λ b. one_if b + count_of test (replicate k x)) e in
    let rest = count-all test x k e in
    omega (arith, one, rest)

pub count-none : {A : Type 0} (test : A → Bool) (x : A) (k : ℕ) → test x ≡ false → count_of test (replicate k x) ≡ 0
count-none test x zero e = refl
count-none test x (suc k) e =
    let one = count-cons test x (replicate k x) ∙ ap (λ b. one_if b + count_of test (replicate k x)) e in
    let rest = count-none test x k e in
    omega (arith, one, rest)

-- one element more
pub count-more : {A : Type 0} (test : A → Bool) (xs : List A) (x : A) → count_of test (xs ++ x ∷ []) ≡ count_of test xs + one_if (test x)
count-more test xs x =
    let both = count-append test xs (x ∷ []) in
    let one = count-cons test x [] in
    omega (arith, both, one)

-- a test that passes where another does
pub count-less : {A : Type 0} (one other : A → Bool) (xs : List A) → ((x : A) → one x ≡ true → other x ≡ true) → count_of one xs ≤ count_of other xs
count-less one other [] more = omega arith
count-less one other (x ∷ xs) more =
    let a = count-cons one x xs in
    let b = count-cons other x xs in
    let rest = count-less one other xs more in
    by (one x) (other x) (more x) a b rest
  where
    by : (s t : Bool) → (s ≡ true → t ≡ true) → count_of one (x ∷ xs) ≡ one_if s + count_of one xs → count_of other (x ∷ xs) ≡ one_if t + count_of other xs → count_of one xs ≤ count_of other xs → count_of one (x ∷ xs) ≤ count_of other (x ∷ xs)
    by false t f a b rest = omega (arith, a, b, rest)
    by true true f a b rest = omega (arith, a, b, rest)
    by true false f a b rest = absurd (true≢false (sym (f refl)))

-- tests of what elements are mapped to
pub count-mapped : {A B : Type 0} (one other : A → Bool) (f : A → B) (test : B → Bool) (xs : List A) → count_of test (map f (filter (λ x. one x && other x) xs)) ≡ count_of (λ x. one x && (other x && test (f x))) xs
count-mapped one other f test [] = refl
count-mapped {A = A} one other f test (x ∷ xs) = by (one x) (other x) (count-mapped one other f test xs)
  where
    fs : List A
    fs = filter (λ y. one y && other y) xs

    gs : List A
    gs = filter (λ y. one y && (other y && test (f y))) xs

    last : (t : Bool) → length (filter test (map f fs)) ≡ length gs → length (if t then f x ∷ filter test (map f fs) else filter test (map f fs)) ≡ length (if t then x ∷ gs else gs)
    last true rest = ap suc rest
    last false rest = rest

    by : (a b : Bool) → length (filter test (map f fs)) ≡ length gs → length (filter test (map f (if a && b then x ∷ fs else fs))) ≡ length (if a && (b && test (f x)) then x ∷ gs else gs)
    by true true rest = last (test (f x)) rest
    by true false rest = rest
    by false b rest = rest

-- one number is of one group
none-there : (k : ℕ) (b : Bool) (from count : ℕ) → k < from → total (λ g. one_if (nat_eq k g && b)) from count ≡ 0
none-there k b from count low =
    total-zero (λ g. one_if (nat_eq k g && b)) from count (λ i below. let away : nat_eq k (from + i) ≡ false = grind (arith, nat_tests) in ap (λ t. one_if (t && b)) away)

once : (k : ℕ) (b : Bool) (from count i : ℕ) → k ≡ from + i → i < count → total (λ g. one_if (nat_eq k g && b)) from count ≡ one_if b
once k b from zero i s low = absurd (omega (arith, low))
once k b from (suc count) zero s low =
    let here : nat_eq k from ≡ true = grind (arith, nat_tests) in
    let one : one_if (nat_eq k from && b) ≡ one_if b = ap (λ t. one_if (t && b)) here in
    let none = none-there k b (from + 1) count (omega (arith, s)) in
    omega (arith, one, none)
once k b from (suc count) (suc i) s low =
    let away : nat_eq k from ≡ false = grind (arith, nat_tests) in
    let none : one_if (nat_eq k from && b) ≡ 0 = ap (λ t. one_if (t && b)) away in
    let rest = once k b (from + 1) count i (omega (arith, s)) (omega (arith, low)) in
    omega (arith, none, rest)

-- so those that pass a test are counted group by group
pub grouped : {A : Type 0} (key : A → ℕ) (test : A → Bool) (bound : ℕ) (xs : List A) → AllByRecursion (λ x. key x < bound) xs → total (λ g. count_of (λ x. nat_eq (key x) g && test x) xs) 0 bound ≡ count_of test xs
grouped key test bound [] all = total-zero (λ g. 0) 0 bound (λ i low. refl)
grouped key test bound (x ∷ xs) all =
    let a = count-cons test x xs in
    let b = grouped key test bound xs all.1 in
    let c = total-add (λ g. one_if (nat_eq (key x) g && test x)) (λ g. count_of (λ y. nat_eq (key y) g && test y) xs) (λ g. count_of (λ y. nat_eq (key y) g && test y) (x ∷ xs)) 0 bound (λ g. count-cons (λ y. nat_eq (key y) g && test y) x xs) in
    let d = once (key x) (test x) 0 bound (key x) (omega arith) all.0 in
    omega (arith, a, b, c, d)

-- a test that one number of a range passes
none-passes : (test : ℕ → Bool) (from count : ℕ) → ((i : ℕ) → from ≤ i → i < from + count → test i ≡ false) → count_of test (range_with_len from count) ≡ 0
none-passes test from zero none = refl
none-passes test from (suc count) none =
    let a = count-cons test from (range_with_len (from + 1) count) in
    let b : one_if (test from) ≡ 0 = ap one_if (none from (omega arith) (omega arith)) in
    let c = none-passes test (from + 1) count (λ i low high. none i (omega (arith, low)) (omega (arith, high))) in
    omega (arith, a, b, c)

one-passes : (test : ℕ → Bool) (from count j : ℕ) → from ≤ j → j < from + count → test j ≡ true → ((i : ℕ) → i < from + count → test i ≡ true → i ≡ j) → count_of test (range_with_len from count) ≡ 1
one-passes test from zero j low high passes only = absurd (omega (arith, low, high))
one-passes test from (suc count) j low high passes only =
    by (nat_eq from j) (test from) refl refl (λ more. one-passes test (from + 1) count j (omega (arith, more)) (omega (arith, high)) passes (λ i below. only i (omega (arith, below))))
  where
    a : count_of test (range_with_len from (suc count)) ≡ one_if (test from) + count_of test (range_with_len (from + 1) count)
    a = count-cons test from (range_with_len (from + 1) count)

    away : (i : ℕ) → i < from + suc count → from ≡ j → from < i → (b : Bool) → test i ≡ b → test i ≡ false
    away i below here above false e = e
    away i below here above true e = let same = only i below e in absurd (omega (arith, same, here, above))

    by : (s t : Bool) → nat_eq from j ≡ s → test from ≡ t → (from < j → count_of test (range_with_len (from + 1) count) ≡ 1) → count_of test (range_with_len from (suc count)) ≡ 1
    by true t e f rest =
        let here : from ≡ j = grind (arith, nat_tests) in
        let one : one_if (test from) ≡ 1 = ap (λ i. one_if (test i)) here ∙ ap one_if passes in
        let b = none-passes test (from + 1) count (λ i first last. away i (omega (arith, last)) here (omega (arith, first)) (test i) refl) in
        omega (arith, a, one, b)
    by false true e f rest =
        let here : from ≡ j = only from (omega arith) f in
        absurd (grind (arith, nat_tests))
    by false false e f rest =
        let other : from < j = grind (arith, nat_tests) in
        let none : one_if (test from) ≡ 0 = ap one_if f in
        let b = rest other in
        omega (arith, a, none, b)

-- the host whose message of a number goes to this one
record IsSenderTo (n r h : ℕ) : Type 0 where
  host : ℕ
  low : host < n
  there : (host + 1 + r) % n ≡ h

sender-to : (n r h : ℕ) → r < n - 1 → h < n → IsSenderTo n r h
sender-to n r h small low = by (nat_le (r + 1) h) refl
  where
    by : (b : Bool) → nat_le (r + 1) h ≡ b → IsSenderTo n r h
    by true e =
        let more : r + 1 ≤ h = grind (arith, nat_tests) in
        let same : h - (r + 1) + 1 + r ≡ h = omega (arith, more) in
        record { host = h - (r + 1); low = omega (arith, low); there = ap (λ x. x % n) same ∙ mod-eq_of_lt low }
    by false e =
        let less : h < r + 1 = grind (arith, nat_tests) in
        let same : h + n - (r + 1) + 1 + r ≡ h + n = omega (arith, small) in
        record { host = h + n - (r + 1); low = omega (arith, less, small, low); there = ap (λ x. x % n) same ∙ add-mod_right h n ∙ mod-eq_of_lt low }

-- of the messages of one number one goes to each host
pub one-to : (n seed h m : ℕ) → 2 ≤ n → h < n → count_of (λ i. nat_eq (peer n seed i m) h) (below n) ≡ 1
one-to n seed h m two low =
    let s : IsSenderTo n ((seed + m) % (n - 1)) h = sender-to n ((seed + m) % (n - 1)) h (mod-lt (seed + m) (omega (arith, two))) low in
    let there = s.low in
    one-passes (λ i. nat_eq (peer n seed i m) h) 0 n s.host (omega arith) (omega (arith, there)) (same (peer n seed s.host m) s.there)
    (λ i high e. one-sender n seed i s.host m two (omega (arith, high)) s.low (to (peer n seed i m) e ∙ sym s.there))
  where
    same : (p : ℕ) → p ≡ h → nat_eq p h ≡ true
    same p e = grind (arith, nat_tests)

    to : (p : ℕ) → nat_eq p h ≡ true → p ≡ h
    to p e = grind (arith, nat_tests)

one-from : (n h : ℕ) → h < n → count_of (λ i. nat_eq i h) (below n) ≡ 1
one-from n h low = one-passes (λ i. nat_eq i h) 0 n h (omega arith) (omega (arith, low)) (grind (arith, nat_tests)) (λ i high e. grind (arith, nat_tests))

-- each host's four messages, by host and number
abbrev pub pairs : List ℕ → List (ℕ × ℕ)
pairs [] = []
pairs (i ∷ is) = (i, 0) ∷ (i, 1) ∷ (i, 2) ∷ (i, 3) ∷ pairs is

pub pairs-count : (test : ℕ × ℕ → Bool) (is : List ℕ) → count_of test (pairs is) ≡ count_of (λ i. test (i, 0)) is + count_of (λ i. test (i, 1)) is + count_of (λ i. test (i, 2)) is + count_of (λ i. test (i, 3)) is
pairs-count test [] = refl
pairs-count test (i ∷ is) =
    let rest = pairs-count test is in
    let a = count-cons test (i, 0) ((i, 1) ∷ (i, 2) ∷ (i, 3) ∷ pairs is) in
    let b = count-cons test (i, 1) ((i, 2) ∷ (i, 3) ∷ pairs is) in
    let c = count-cons test (i, 2) ((i, 3) ∷ pairs is) in
    let d = count-cons test (i, 3) (pairs is) in
    let e = count-cons (λ j. test (j, 0)) i is in
    let f = count-cons (λ j. test (j, 1)) i is in
    let g = count-cons (λ j. test (j, 2)) i is in
    let h = count-cons (λ j. test (j, 3)) i is in
    omega (arith, rest, a, b, c, d, e, f, g, h)

-- those that pass by the first and third numbers, and by the others
pub pairs-even : (test : ℕ × ℕ → Bool) (is : List ℕ) → 1 ≤ count_of (λ i. test (i, 0)) is → 1 ≤ count_of (λ i. test (i, 2)) is → 2 ≤ count_of test (pairs is)
pairs-even test is a b = let all = pairs-count test is in omega (arith, all, a, b)

pub pairs-odd : (test : ℕ × ℕ → Bool) (is : List ℕ) → 1 ≤ count_of (λ i. test (i, 1)) is → 1 ≤ count_of (λ i. test (i, 3)) is → 2 ≤ count_of test (pairs is)
pairs-odd test is a b = let all = pairs-count test is in omega (arith, all, a, b)

pub pairs-long : (is : List ℕ) → length (pairs is) ≡ 4 * length is
pairs-long [] = refl
pairs-long (i ∷ is) = let rest = pairs-long is in omega (arith, rest)

pub pairs-all : (P : ℕ → Type 0) (is : List ℕ) → AllByRecursion P is → AllByRecursion (λ d. P d.0) (pairs is)
pairs-all P [] all = tt
pairs-all P (i ∷ is) all = (all.0, (all.0, (all.0, (all.0, pairs-all P is all.1))))

-- the messages of all hosts
abbrev pub messages : ℕ → List (ℕ × ℕ)
messages n = pairs (below n)

pub messages-long : (n : ℕ) → length (messages n) ≡ 4 * n
messages-long n = let a = pairs-long (below n) in let b : length (below n) ≡ n = length-range_with_len 0 n in omega (arith, a, b)

-- a message is from a host, or to one
abbrev pub is_from : ℕ → ℕ × ℕ → Bool
is_from h d = nat_eq d.0 h

abbrev pub is_to : ℕ → ℕ → ℕ → ℕ × ℕ → Bool
is_to n seed h d = nat_eq (peer n seed d.0 d.1) h

pub four-to : (n seed h : ℕ) → 2 ≤ n → h < n → count_of (is_to n seed h) (messages n) ≡ 4
four-to n seed h two low =
    let all = pairs-count (is_to n seed h) (below n) in
    let a = one-to n seed h 0 two low in
    let b = one-to n seed h 1 two low in
    let c = one-to n seed h 2 two low in
    let d = one-to n seed h 3 two low in
    omega (arith, all, a, b, c, d)

pub four-from : (n h : ℕ) → h < n → count_of (is_from h) (messages n) ≡ 4
four-from n h low = let all = pairs-count (is_from h) (below n) in let one = one-from n h low in omega (arith, all, one)
