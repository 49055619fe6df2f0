-- Lists from which the first element that passes a test is taken out, or in which it is replaced.
use Rattle.std.proofs.Common.{◌≡◌, ℕ, ◌≤◌, Bool, true, false, ◌||◌, List, [], ◌∷◌, ◌++◌, length, map, find, Some, refl, sym, ap, ◌∙◌, subst, arith, length-append, if◌then◌else◌}
use Rattle.std.specs.List.{AllByRecursion, filter, list_any}
use Rattle.std.proofs.lemmas.Option.{same_Some}
use Rattle.gm_defs.specs.Port.{without_first, with_first}

-- what was found stands between a front and a back
pub record IsSplit {A : Type 0} (test : A → Bool) (xs : List A) (x : A) : Type 0 where
  pub front : List A
  pub back : List A
  pub whole : xs ≡ front ++ x ∷ back
  pub without : without_first test xs ≡ front ++ back
  pub replaced : (y : A) → with_first test y xs ≡ front ++ y ∷ back

pub split : {A : Type 0} (test : A → Bool) (xs : List A) (x : A) → find test xs ≡ Some x → IsSplit test xs x
split test [] x e = cc
split test (z ∷ xs) x e = by (test z) refl e (split test xs x)
  where
    by : (b : Bool) → test z ≡ b → (if b then Some z else find test xs) ≡ Some x → (find test xs ≡ Some x → IsSplit test xs x) → IsSplit test (z ∷ xs) x
    by true t d rest =
        let same : z ≡ x = same_Some z x d in
        record {
          front = [];
          back = xs;
          whole = ap (λ (a : _). a ∷ xs) same;
          without = ap (λ b. if b then xs else z ∷ without_first test xs) t;
          replaced = λ y. ap (λ b. if b then y ∷ xs else z ∷ with_first test y xs) t;
        }
    by false t d rest =
        let r = rest d in
        record {
          front = z ∷ r.front;
          back = r.back;
          whole = ap (λ l. z ∷ l) r.whole;
          without = ap (λ b. if b then xs else z ∷ without_first test xs) t ∙ ap (λ l. z ∷ l) r.without;
          replaced = λ y. ap (λ b. if b then y ∷ xs else z ∷ with_first test y xs) t ∙ ap (λ l. z ∷ l) (r.replaced y);
        }

pub filter-append : {A : Type 0} (p : A → Bool) (xs ys : List A) → filter p (xs ++ ys) ≡ filter p xs ++ filter p ys
filter-append p [] ys = refl
filter-append p (x ∷ xs) ys = by (p x) (filter-append p xs ys)
  where
    by : (b : Bool) → filter p (xs ++ ys) ≡ filter p xs ++ filter p ys → (if b then x ∷ filter p (xs ++ ys) else filter p (xs ++ ys)) ≡ (if b then x ∷ filter p xs else filter p xs) ++ filter p ys
    by true rest = ap (λ l. x ∷ l) rest
    by false rest = rest

pub filter-none : {A : Type 0} (p : A → Bool) (x : A) (xs : List A) → p x ≡ false → filter p (x ∷ xs) ≡ filter p xs
filter-none p x xs e = ap (λ b. if b then x ∷ filter p xs else filter p xs) e

pub filter-one : {A : Type 0} (p : A → Bool) (x : A) (xs : List A) → p x ≡ true → filter p (x ∷ xs) ≡ x ∷ filter p xs
filter-one p x xs e = ap (λ b. if b then x ∷ filter p xs else filter p xs) e

-- of two lists of which the second is not empty, one element stands in it alone
pub only-behind : {A : Type 0} (xs ys : List A) (x y : A) → xs ++ x ∷ ys ≡ y ∷ [] → (xs ≡ []) × ((ys ≡ []) × (x ≡ y))
only-behind [] [] x y e = let same : x ≡ y = cc in (refl, (refl, same))
only-behind [] (z ∷ ys) x y e = cc
only-behind (a ∷ []) ys x y e = cc
only-behind (a ∷ b ∷ xs) ys x y e = cc

pub none-both : {A : Type 0} (xs ys : List A) → xs ++ ys ≡ [] → (xs ≡ []) × (ys ≡ [])
none-both [] ys e = (refl, e)
none-both (x ∷ xs) ys e = cc

module _ {A : Type 0} (test p : A → Bool) (xs : List A) (x : A) (s : IsSplit test xs x) where
  pub whole-filter : filter p xs ≡ filter p s.front ++ filter p (x ∷ s.back)
  whole-filter = ap (filter p) s.whole ∙ filter-append p s.front (x ∷ s.back)

  pub without-filter : filter p (without_first test xs) ≡ filter p s.front ++ filter p s.back
  without-filter = ap (filter p) s.without ∙ filter-append p s.front s.back

  pub replaced-filter : (y : A) → filter p (with_first test y xs) ≡ filter p s.front ++ filter p (y ∷ s.back)
  replaced-filter y = ap (filter p) (s.replaced y) ∙ filter-append p s.front (y ∷ s.back)

  -- one that doesn't count goes
  pub without-other : p x ≡ false → filter p (without_first test xs) ≡ filter p xs
  without-other e = without-filter ∙ ap (λ l. filter p s.front ++ l) (sym (filter-none p x s.back e)) ∙ sym whole-filter

  -- one that doesn't count is replaced by another such
  pub replaced-other : (y : A) → p x ≡ false → p y ≡ false → filter p (with_first test y xs) ≡ filter p xs
  replaced-other y e d = replaced-filter y ∙ ap (λ l. filter p s.front ++ l) (filter-none p y s.back d ∙ sym (filter-none p x s.back e)) ∙ sym whole-filter

  -- one that counts is the only one
  pub only-one : (z : A) → p x ≡ true → filter p xs ≡ z ∷ [] → (filter p s.front ≡ []) × ((filter p s.back ≡ []) × (x ≡ z))
  only-one z e d = only-behind (filter p s.front) (filter p s.back) x z (ap (λ l. filter p s.front ++ l) (sym (filter-one p x s.back e)) ∙ sym whole-filter ∙ d)

  -- it goes, and none is left
  pub without-only : (z : A) → p x ≡ true → filter p xs ≡ z ∷ [] → filter p (without_first test xs) ≡ []
  without-only z e d = let o = only-one z e d in without-filter ∙ (λ i. o.0 i ++ o.1.0 i)

  -- it is replaced, and the other is the only one
  pub replaced-only : (y z : A) → p x ≡ true → p y ≡ true → filter p xs ≡ z ∷ [] → filter p (with_first test y xs) ≡ y ∷ []
  replaced-only y z e f d = let o = only-one z e d in replaced-filter y ∙ ap (λ l. filter p s.front ++ l) (filter-one p y s.back f) ∙ (λ i. o.0 i ++ y ∷ o.1.0 i)

  -- one is the first that counts
  pub replaced-first : (y : A) → p x ≡ false → p y ≡ true → filter p xs ≡ [] → filter p (with_first test y xs) ≡ y ∷ []
  replaced-first y e f d =
      let o = none-both (filter p s.front) (filter p s.back) (ap (λ l. filter p s.front ++ l) (sym (filter-none p x s.back e)) ∙ sym whole-filter ∙ d) in
      replaced-filter y ∙ ap (λ l. filter p s.front ++ l) (filter-one p y s.back f) ∙ (λ i. o.0 i ++ y ∷ o.1 i)

-- as many count where one that counts is replaced by another such, and no more where one is taken out
module _ {A : Type 0} (test p : A → Bool) (xs : List A) (x : A) (s : IsSplit test xs x) where
  pub replaced-count : (y : A) → p x ≡ true → p y ≡ true → length (filter p (with_first test y xs)) ≡ length (filter p xs)
  replaced-count y e f =
      let now = ap length (replaced-filter test p xs x s y ∙ ap (λ l. filter p s.front ++ l) (filter-one p y s.back f)) ∙ length-append (filter p s.front) (y ∷ filter p s.back) in
      let was = ap length (whole-filter test p xs x s ∙ ap (λ l. filter p s.front ++ l) (filter-one p x s.back e)) ∙ length-append (filter p s.front) (x ∷ filter p s.back) in
      omega (arith, now, was)

  pub without-count : length (filter p (without_first test xs)) ≤ length (filter p xs)
  without-count =
      let now = ap length (without-filter test p xs x s) ∙ length-append (filter p s.front) (filter p s.back) in
      let was = ap length (whole-filter test p xs x s) ∙ length-append (filter p s.front) (filter p (x ∷ s.back)) in
      let more = grows (p x) in
      omega (arith, now, was, more)
    where
      grows : (b : Bool) → length (filter p s.back) ≤ length (if b then x ∷ filter p s.back else filter p s.back)
      grows true = omega arith
      grows false = omega arith

-- what holds of each element holds of one that is found
pub all-found : {A : Type 0} (P : A → Type 0) (test : A → Bool) (xs : List A) (x : A) → AllByRecursion P xs → find test xs ≡ Some x → P x
all-found P test [] x all e = cc
all-found P test (z ∷ xs) x all e = by (test z) e (all-found P test xs x all.1)
  where
    by : (b : Bool) → (if b then Some z else find test xs) ≡ Some x → (find test xs ≡ Some x → P x) → P x
    by true d rest = subst P (same_Some z x d) all.0
    by false d rest = rest d

-- none passes a test where not any does
pub none-passes : {A : Type 0} (p : A → Bool) (xs : List A) → list_any p xs ≡ false → filter p xs ≡ []
none-passes p [] e = refl
none-passes p (x ∷ xs) e = by (p x) e (none-passes p xs)
  where
    by : (b : Bool) → (b || list_any p xs) ≡ false → (list_any p xs ≡ false → filter p xs ≡ []) → (if b then x ∷ filter p xs else filter p xs) ≡ []
    by true d rest = cc
    by false d rest = rest d

-- and not any does where none passes it
pub any-none : {A : Type 0} (p : A → Bool) (xs : List A) → filter p xs ≡ [] → list_any p xs ≡ false
any-none p [] e = refl
any-none p (x ∷ xs) e = by (p x) e (any-none p xs)
  where
    by : (b : Bool) → (if b then x ∷ filter p xs else filter p xs) ≡ [] → (filter p xs ≡ [] → list_any p xs ≡ false) → (b || list_any p xs) ≡ false
    by true d rest = cc
    by false d rest = rest d

-- what is found and counts is the only one that does
pub found-only : {A : Type 0} (test p : A → Bool) (xs : List A) (x z : A) → find test xs ≡ Some x → p x ≡ true → filter p xs ≡ z ∷ [] → x ≡ z
found-only test p xs x z e t d = (only-one test p xs x (split test xs x e) z t d).1.1

not-none : {A : Type 0} (front : List A) (x : A) (back : List A) → front ++ x ∷ back ≡ [] → ⊥
not-none [] x back e = cc
not-none (a ∷ front) x back e = cc

pub found-none : {A : Type 0} (test p : A → Bool) (xs : List A) (x : A) → find test xs ≡ Some x → p x ≡ true → filter p xs ≡ [] → ⊥
found-none test p xs x e t d =
    let s : IsSplit test xs x = split test xs x e in
    not-none (filter p s.front) x (filter p s.back) (ap (λ l. filter p s.front ++ l) (sym (filter-one p x s.back t)) ∙ sym (whole-filter test p xs x s) ∙ d)

-- a replaced element of the same number leaves the numbers
pub same-numbers : {A : Type 0} (f : A → ℕ) (test : A → Bool) (xs : List A) (x y : A) → find test xs ≡ Some x → f y ≡ f x → map f (with_first test y xs) ≡ map f xs
same-numbers f test [] x y e s = cc
same-numbers f test (z ∷ xs) x y e s = by (test z) e (same-numbers f test xs x y)
  where
    by : (b : Bool) → (if b then Some z else find test xs) ≡ Some x → (find test xs ≡ Some x → f y ≡ f x → map f (with_first test y xs) ≡ map f xs) → map f (if b then y ∷ xs else z ∷ with_first test y xs) ≡ f z ∷ map f xs
    by true d rest = let same : z ≡ x = cc in ap (λ (k : ℕ). k ∷ map f xs) (s ∙ ap f (sym same))
    by false d rest = ap (λ (ks : List ℕ). f z ∷ ks) (rest d s)

-- what holds of each element, and of the new one where it held of the old
pub all-replaced : {A : Type 0} (P : A → Type 0) (test : A → Bool) (xs : List A) (x y : A) → find test xs ≡ Some x → (P x → P y) → AllByRecursion P xs → AllByRecursion P (with_first test y xs)
all-replaced P test [] x y e new all = cc
all-replaced P test (z ∷ xs) x y e new all = by (test z) e (λ d. all-replaced P test xs x y d new all.1)
  where
    by : (b : Bool) → (if b then Some z else find test xs) ≡ Some x → (find test xs ≡ Some x → AllByRecursion P (with_first test y xs)) → AllByRecursion P (if b then y ∷ xs else z ∷ with_first test y xs)
    by true d rest = (new (subst P (same_Some z x d) all.0), all.1)
    by false d rest = (all.0, rest d)

pub all-left : {A : Type 0} (P : A → Type 0) (test : A → Bool) (xs : List A) → AllByRecursion P xs → AllByRecursion P (without_first test xs)
all-left P test [] all = tt
all-left P test (z ∷ xs) all = by (test z) (all-left P test xs all.1)
  where
    by : (b : Bool) → AllByRecursion P (without_first test xs) → AllByRecursion P (if b then xs else z ∷ without_first test xs)
    by true rest = all.1
    by false rest = (all.0, rest)

-- three lists, as a buffer has them
abbrev pub joined : List ℕ → List ℕ → List ℕ → List ℕ
joined front part rest = front ++ part ++ rest

pub joined-front : (front part rest : List ℕ) → joined front part rest ≡ (front ++ part) ++ rest
joined-front [] part rest = refl
joined-front (x ∷ front) part rest = ap (λ l. x ∷ l) (joined-front front part rest)
