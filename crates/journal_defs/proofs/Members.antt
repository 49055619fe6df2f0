-- Members of lists, and lists in which no element stands twice.
use Rattle.std.proofs.Common.{◌≡◌, ◌≢◌, ◌<◌, ℕ, zero, suc, List, [], ◌∷◌, ◌++◌, map, length, length-append, Bool, true, Some, sym, ◌∙◌, subst, ap, refl, arith, ◌⊎◌, inl, inr}
use Rattle.std.specs.Prelude.{slice_get}
use Rattle.std.specs.List.{AllByRecursion, list_all}
use Rattle.std.proofs.lemmas.Bool.{and_parts, cases_order}
use Rattle.net_defs.specs.Network.{Apart}
use Rattle.journal_defs.specs.Counting.{numbers_below}

-- an element of a list
abbrev pub IsMember : {X : Type 0} → X → List X → Type 0
IsMember x [] = ⊥
IsMember x (y ∷ ys) = (x ≡ y) ⊎ IsMember x ys

pub member-left : {X : Type 0} (x : X) (xs ys : List X) → IsMember x xs → IsMember x (xs ++ ys)
member-left x [] ys m = absurd m
member-left x (z ∷ xs) ys (inl e) = inl e
member-left x (z ∷ xs) ys (inr m) = inr (member-left x xs ys m)

pub member-right : {X : Type 0} (x : X) (xs ys : List X) → IsMember x ys → IsMember x (xs ++ ys)
member-right x [] ys m = m
member-right x (z ∷ xs) ys m = inr (member-right x xs ys m)

pub member-map : {X Y : Type 0} (f : X → Y) (x : X) (xs : List X) → IsMember x xs → IsMember (f x) (map f xs)
member-map f x [] m = absurd m
member-map f x (z ∷ xs) (inl e) = inl (ap f e)
member-map f x (z ∷ xs) (inr m) = inr (member-map f x xs m)

pub member-passes : {X : Type 0} (test : X → Bool) (x : X) (xs : List X) → list_all test xs ≡ true → IsMember x xs → test x ≡ true
member-passes test x [] all m = absurd m
member-passes test x (y ∷ ys) all (inl e) = ap test e ∙ (and_parts (test y) (list_all test ys) all).0
member-passes test x (y ∷ ys) all (inr m) = member-passes test x ys (and_parts (test y) (list_all test ys) all).1 m

pub all-member : {X : Type 0} (P : X → Type 0) (x : X) (xs : List X) → AllByRecursion P xs → IsMember x xs → P x
all-member P x [] all m = absurd m
all-member P x (y ∷ ys) all (inl e) = subst P (sym e) all.0
all-member P x (y ∷ ys) all (inr m) = all-member P x ys all.1 m

pub all-from-members : {X : Type 0} (P : X → Type 0) (xs : List X) → ((x : X) → IsMember x xs → P x) → AllByRecursion P xs
all-from-members P [] f = tt
all-from-members P (x ∷ xs) f = (f x (inl refl), all-from-members P xs (λ y m. f y (inr m)))

pub all-join : {X : Type 0} (P : X → Type 0) (xs ys : List X) → AllByRecursion P xs → AllByRecursion P ys → AllByRecursion P (xs ++ ys)
all-join P [] ys a b = b
all-join P (x ∷ xs) ys a b = (a.0, all-join P xs ys a.1 b)

pub all-map : {X Y : Type 0} (P : Y → Type 0) (f : X → Y) (xs : List X) → AllByRecursion (λ x. P (f x)) xs → AllByRecursion P (map f xs)
all-map P f [] all = tt
all-map P f (x ∷ xs) all = (all.0, all-map P f xs all.1)

-- the place of a member
pub member-place : {X : Type 0} (x : X) (xs : List X) → IsMember x xs → (k : ℕ) × (slice_get xs k ≡ Some x)
member-place x [] m = absurd m
member-place x (y ∷ ys) (inl e) = (zero, ap Some (sym e))
member-place x (y ∷ ys) (inr m) = let p = member-place x ys m in (suc p.0, p.1)

-- two lists that are apart, with no common element
pub apart-join : {X : Type 0} (xs ys : List X) → Apart xs → Apart ys → AllByRecursion (λ x. AllByRecursion (λ y. x ≢ y) ys) xs → Apart (xs ++ ys)
apart-join [] ys a b d = b
apart-join (x ∷ xs) ys a b d = (all-join (λ y. x ≢ y) xs ys a.0 d.0, apart-join xs ys a.1 b d.1)

-- a function that keeps elements apart
pub apart-map : {X Y : Type 0} (f : X → Y) (xs : List X) → ((x y : X) → x ≢ y → f x ≢ f y) → Apart xs → Apart (map f xs)
apart-map f [] keeps a = tt
apart-map f (x ∷ xs) keeps a = (all-map (λ y. f x ≢ y) f xs (other xs a.0), apart-map f xs keeps a.1)
  where
    other : (zs : List _) → AllByRecursion (λ y. x ≢ y) zs → AllByRecursion (λ y. f x ≢ f y) zs
    other [] d = tt
    other (z ∷ zs) d = (keeps x z d.0, other zs d.1)

-- the numbers below one
pub number-member : (n k : ℕ) → k < n → IsMember k (numbers_below n)
number-member zero k l = absurd (omega arith)
number-member (suc n) k l = by (cases_order k n) (number-member n k)
  where
    by : (k ≡ n) ⊎ ((k < n) ⊎ (n < k)) → (k < n → IsMember k (numbers_below n)) → IsMember k (numbers_below n ++ n ∷ [])
    by (inl e) rest = member-right k (numbers_below n) (n ∷ []) (inl e)
    by (inr (inl a)) rest = member-left k (numbers_below n) (n ∷ []) (rest a)
    by (inr (inr a)) rest = absurd (omega arith)

pub length-numbers : (n : ℕ) → length (numbers_below n) ≡ n
length-numbers zero = refl
length-numbers (suc n) = length-append (numbers_below n) (n ∷ []) ∙ (let e = length-numbers n in omega arith)
