-- Sums over numbers in a row, and how many of a list pass a test.
use Rattle.std.proofs.Common.{◌≡◌, ◌+◌, ◌≤◌, ◌<◌, ℕ, zero, suc, Bool, true, false, ◌&&◌, ◌||◌, List, [], ◌∷◌, length, map, drop, find, is_some, Some, refl, ap, ◌∙◌, subst, arith, true≢false, if◌then◌else◌}
use Rattle.std.specs.Prelude.{slice_get}
use Rattle.std.specs.List.{AllByRecursion, filter, list_any, range_with_len}
use Rattle.std.proofs.lemmas.Option.{same_Some}
use Rattle.world_defs.specs.World.{sum_of}

abbrev pub total : (ℕ → ℕ) → ℕ → ℕ → ℕ
total f from count = sum_of (map f (range_with_len from count))

pub total-less : (f g : ℕ → ℕ) (from count : ℕ) → ((i : ℕ) → f i ≤ g i) → total f from count ≤ total g from count
total-less f g from zero all = omega arith
total-less f g from (suc count) all = let a = all from in let b = total-less f g (from + 1) count all in omega (arith, a, b)

pub total-less-in : (f g : ℕ → ℕ) (from count : ℕ) → ((i : ℕ) → i < from + count → f i ≤ g i) → total f from count ≤ total g from count
total-less-in f g from zero all = omega arith
total-less-in f g from (suc count) all = let a = all from (omega arith) in let b = total-less-in f g (from + 1) count (λ i low. all i (omega (arith, low))) in omega (arith, a, b)

pub total-strict : (f g : ℕ → ℕ) (from count i j : ℕ) → j ≡ from + i → i < count → ((i : ℕ) → i < from + count → f i ≤ g i) → f j + 1 ≤ g j → total f from count + 1 ≤ total g from count
total-strict f g from zero i j s low all one = absurd (omega (arith, low))
total-strict f g from (suc count) zero j s low all one =
    let here : j ≡ from = omega (arith, s) in
    let a : f from + 1 ≤ g from = subst (λ k. f k + 1 ≤ g k) here one in
    let b = total-less-in f g (from + 1) count (λ i below. all i (omega (arith, below))) in
    omega (arith, a, b)
total-strict f g from (suc count) (suc i) j s low all one =
    let a = all from (omega arith) in
    let b = total-strict f g (from + 1) count i j (omega (arith, s)) (omega (arith, low)) (λ k below. all k (omega (arith, below))) one in
    omega (arith, a, b)

pub total-add : (f g h : ℕ → ℕ) (from count : ℕ) → ((i : ℕ) → h i ≡ f i + g i) → total h from count ≡ total f from count + total g from count
total-add f g h from zero all = refl
total-add f g h from (suc count) all = let a = all from in let b = total-add f g h (from + 1) count all in omega (arith, a, b)

pub total-zero : (f : ℕ → ℕ) (from count : ℕ) → ((i : ℕ) → i < count → f (from + i) ≡ 0) → total f from count ≡ 0
total-zero f from zero all = refl
total-zero f from (suc count) all =
    let a : f from ≡ 0 = (let e : from ≡ from + 0 = omega arith in ap f e ∙ all 0 (omega arith)) in
    let b = total-zero f (from + 1) count (λ i low. let e : from + 1 + i ≡ from + suc i = omega arith in ap f e ∙ all (suc i) (omega (arith, low))) in
    omega (arith, a, b)

-- how many of a list pass a test
abbrev pub count_of : {A : Type 0} → (A → Bool) → List A → ℕ
count_of test xs = length (filter test xs)

abbrev pub one_if : Bool → ℕ
one_if true = 1
one_if false = 0

pub count-cons : {A : Type 0} (test : A → Bool) (x : A) (xs : List A) → count_of test (x ∷ xs) ≡ one_if (test x) + count_of test xs
count-cons test x xs = by (test x)
  where
    by : (b : Bool) → length (if b then x ∷ filter test xs else filter test xs) ≡ one_if b + length (filter test xs)
    by true = omega arith
    by false = omega arith

pub count-least : {A : Type 0} (test : A → Bool) (x : A) (xs : List A) → count_of test xs ≤ count_of test (x ∷ xs)
count-least test x xs = let a = count-cons test x xs in by (test x) a
  where
    by : (b : Bool) → count_of test (x ∷ xs) ≡ one_if b + count_of test xs → count_of test xs ≤ count_of test (x ∷ xs)
    by true e = omega (arith, e)
    by false e = omega (arith, e)

pub drop-fewer : {A : Type 0} (test : A → Bool) (xs : List A) (a b : ℕ) → a ≤ b → count_of test (drop b xs) ≤ count_of test (drop a xs)
drop-fewer test [] zero zero low = omega arith
drop-fewer test [] zero (suc b) low = omega arith
drop-fewer test [] (suc a) zero low = absurd (omega (arith, low))
drop-fewer test [] (suc a) (suc b) low = omega arith
drop-fewer test (x ∷ xs) zero zero low = omega arith
drop-fewer test (x ∷ xs) zero (suc b) low =
    let c = drop-fewer test xs zero b (omega arith) in
    let d = count-least test x xs in
    omega (arith, c, d)
drop-fewer test (x ∷ xs) (suc a) zero low = absurd (omega (arith, low))
drop-fewer test (x ∷ xs) (suc a) (suc b) low = drop-fewer test xs a b (omega (arith, low))

-- one that passes is gone
pub drop-strict : {A : Type 0} (test : A → Bool) (xs : List A) (a : ℕ) (x : A) → slice_get xs a ≡ Some x → test x ≡ true → count_of test (drop (suc a) xs) + 1 ≤ count_of test (drop a xs)
drop-strict test [] a x e t = cc
drop-strict test (y ∷ xs) zero x e t =
    let same : y ≡ x = same_Some y x e in
    let c = count-cons test y xs in
    let one : one_if (test y) ≡ 1 = ap one_if (ap test same ∙ t) in
    omega (arith, c, one)
drop-strict test (y ∷ xs) (suc a) x e t = drop-strict test xs a x e t

-- one that passes stands at a place or after it
pub some-after : {A : Type 0} (test : A → Bool) (xs : List A) (a i : ℕ) (x : A) → a ≤ i → slice_get xs i ≡ Some x → test x ≡ true → 1 ≤ count_of test (drop a xs)
some-after test [] a i x low e t = cc
some-after test (y ∷ xs) zero zero x low e t =
    let c = drop-strict test (y ∷ xs) zero x e t in omega (arith, c)
some-after test (y ∷ xs) zero (suc i) x low e t =
    let c = some-after test xs zero i x (omega arith) e t in
    let d = count-least test y xs in
    omega (arith, c, d)
some-after test (y ∷ xs) (suc a) zero x low e t = absurd (omega (arith, low))
some-after test (y ∷ xs) (suc a) (suc i) x low e t = some-after test xs a i x (omega (arith, low)) e t

-- two tests
pub count-both : {A : Type 0} (one other : A → Bool) (xs : List A) → count_of (λ x. one x && other x) xs ≡ count_of one (filter other xs)
count-both one other [] = refl
count-both one other (x ∷ xs) = by (one x) (other x) refl refl (count-both one other xs)
  where
    by : (a b : Bool) → one x ≡ a → other x ≡ b → count_of (λ x. one x && other x) xs ≡ count_of one (filter other xs) → count_of (λ x. one x && other x) (x ∷ xs) ≡ count_of one (filter other (x ∷ xs))
    by a true e f rest =
        let c = count-cons (λ x. one x && other x) x xs in
        let d = count-cons one x (filter other xs) in
        let same : one_if (one x && other x) ≡ one_if (one x) = ap (λ b. one_if (one x && b)) f ∙ ap one_if (and-true (one x)) in
        let front : count_of one (filter other (x ∷ xs)) ≡ count_of one (x ∷ filter other xs) = ap (λ b. count_of one (if b then x ∷ filter other xs else filter other xs)) f in
        omega (arith, c, d, same, front, rest)
      where
        and-true : (b : Bool) → (b && true) ≡ b
        and-true true = refl
        and-true false = refl
    by a false e f rest =
        let c = count-cons (λ x. one x && other x) x xs in
        let none : one_if (one x && other x) ≡ 0 = ap (λ b. one_if (one x && b)) f ∙ ap one_if (and-false (one x)) in
        let front : count_of one (filter other (x ∷ xs)) ≡ count_of one (filter other xs) = ap (λ b. count_of one (if b then x ∷ filter other xs else filter other xs)) f in
        omega (arith, c, none, front, rest)
      where
        and-false : (b : Bool) → (b && false) ≡ false
        and-false true = refl
        and-false false = refl

pub all-filter : {A : Type 0} (P : A → Type 0) (test : A → Bool) (xs : List A) → AllByRecursion P xs → AllByRecursion P (filter test xs)
all-filter P test [] all = tt
all-filter P test (x ∷ xs) all = by (test x) (all-filter P test xs all.1)
  where
    by : (b : Bool) → AllByRecursion P (filter test xs) → AllByRecursion P (if b then x ∷ filter test xs else filter test xs)
    by true rest = (all.0, rest)
    by false rest = rest

pub all-places : {A : Type 0} (P : A → Type 0) (xs : List A) → ((i : ℕ) (x : A) → slice_get xs i ≡ Some x → P x) → AllByRecursion P xs
all-places P [] each = tt
all-places P (x ∷ xs) each = (each 0 x refl, all-places P xs (λ i y e. each (suc i) y e))

pub none-any : {A : Type 0} (test : A → Bool) (xs : List A) → list_any test xs ≡ false → filter test xs ≡ []
none-any test [] e = refl
none-any test (x ∷ xs) e = by (test x) e (none-any test xs)
  where
    by : (b : Bool) → (b || list_any test xs) ≡ false → (list_any test xs ≡ false → filter test xs ≡ []) → (if b then x ∷ filter test xs else filter test xs) ≡ []
    by true d rest = absurd (true≢false d)
    by false d rest = rest d

pub none-found : {A : Type 0} (test : A → Bool) (xs : List A) → is_some (find test xs) ≡ false → AllByRecursion (λ x. test x ≡ false) xs
none-found test [] e = tt
none-found test (x ∷ xs) e = by (test x) refl e (none-found test xs)
  where
    by : (b : Bool) → test x ≡ b → is_some (if b then Some x else find test xs) ≡ false → (is_some (find test xs) ≡ false → AllByRecursion (λ y. test y ≡ false) xs) → AllByRecursion (λ y. test y ≡ false) (x ∷ xs)
    by true t d rest = absurd (true≢false d)
    by false t d rest = (t, rest d)

-- One that passes a test is of some group.
pub record HasGroup {A : Type 0} (test : ℕ → A → Bool) (count : ℕ) (x : A) : Type 0 where
  pub group : ℕ
  pub low : group < count
  pub passes : test group x ≡ true

-- as many as pass a test are in groups, where each of them is in one
pub covered : {A : Type 0} (test : A → Bool) (groups : ℕ → A → Bool) (count : ℕ) (xs : List A) → AllByRecursion (λ x. test x ≡ true → HasGroup groups count x) xs → count_of test xs ≤ total (λ i. count_of (groups i) xs) 0 count
covered test groups count [] all = omega arith
covered test groups count (x ∷ xs) all =
    let a = count-cons test x xs in
    let b = covered test groups count xs all.1 in
    let c = total-add (λ i. one_if (groups i x)) (λ i. count_of (groups i) xs) (λ i. count_of (groups i) (x ∷ xs)) 0 count (λ i. count-cons (groups i) x xs) in
    let d : one_if (test x) ≤ total (λ i. one_if (groups i x)) 0 count = by (test x) refl in
    omega (arith, a, b, c, d)
  where
    by : (b : Bool) → test x ≡ b → one_if b ≤ total (λ i. one_if (groups i x)) 0 count
    by false e = omega arith
    by true e =
        let g : HasGroup groups count x = all.0 e in
        let one : one_if (groups g.group x) ≡ 1 = ap one_if g.passes in
        let s = total-strict (λ i. 0) (λ i. one_if (groups i x)) 0 count g.group g.group (omega arith) g.low (λ i low. omega arith) (omega (arith, one)) in
        omega (arith, s)
