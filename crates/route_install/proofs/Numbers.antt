-- Parts by rising number: one put among them, and whether all stand.
use Rattle.std.proofs.Common.{◌≡◌, ◌<◌, ◌≤◌, ◌+◌, ℕ, zero, suc, List, [], ◌∷◌, ◌++◌, Bool, true, false, length, nat_eq, nat_lt, nat_le, take, drop, get_or, drop-cons, Option, Some, None, option_map, refl, ap, sym, ◌∙◌, subst, arith, append_assoc, if◌then◌else◌}
use Rattle.std.specs.Prelude.{option_and_then, slice_get, find, insert, Result, Ok, Err, OnOk, OnErr}
use Rattle.std.specs.List.{AllByRecursion}
use Rattle.std.specs.Map.{lookup}
use Rattle.std.specs.Option.{option_or}
use Rattle.std.proofs.Math.ListN.{set}
use Rattle.std.proofs.lemmas.Bool.Decides.{nat_tests}
use Rattle.std.proofs.lemmas.List.{append-nil}
use Rattle.std.proofs.lemmas.List.Folds.{find-append}
use Rattle.std.specs.declared.alloc.AllocError.{AllocError}
use Rattle.net_defs.proofs.Distinct.{all-weaker}
use Rattle.world_defs.specs.Mapping.{RouteEntry}
use Rattle.world_defs.specs.Table.{with_part, joined_below}
use Rattle.route_install.specs.Collecting.{Numbered, joined_all, AreNumbered, place_of, has_number, are_all}

-- a part in the place of another of its number
pub put-same : (ps : List Numbered) (n : ℕ) (es : List RouteEntry) → has_number (slice_get ps (place_of n ps)) n ≡ true → with_part n es ps ≡ set ps (place_of n ps) (n, es)
put-same [] n es h = cc
put-same (p ∷ ps) n es h = by (nat_le n p.0) refl (put-same ps n es) h
  where
    by : (b : Bool) → nat_le n p.0 ≡ b → (has_number (slice_get ps (place_of n ps)) n ≡ true → with_part n es ps ≡ set ps (place_of n ps) (n, es))
        → has_number (slice_get (p ∷ ps) (if b then 0 else suc (place_of n ps))) n ≡ true
        → with_part n es (p ∷ ps) ≡ set (p ∷ ps) (if b then 0 else suc (place_of n ps)) (n, es)
    by true e f g =
        let low : nat_lt n p.0 ≡ false = grind (arith, nat_tests) in
        let same : nat_eq n p.0 ≡ true = grind (arith, nat_tests) in
        rw (low, same) refl
    by false e f g =
        let low : nat_lt n p.0 ≡ false = grind (arith, nat_tests) in
        let other : nat_eq n p.0 ≡ false = grind (arith, nat_tests) in
        rw (low, other) (ap (λ l. p ∷ l) (f g))

-- a part of a new number
pub put-new : (ps : List Numbered) (n : ℕ) (es : List RouteEntry) → has_number (slice_get ps (place_of n ps)) n ≡ false → with_part n es ps ≡ insert ps (place_of n ps) (n, es)
put-new [] n es h = refl
put-new (p ∷ ps) n es h = by (nat_le n p.0) refl (put-new ps n es) h
  where
    by : (b : Bool) → nat_le n p.0 ≡ b → (has_number (slice_get ps (place_of n ps)) n ≡ false → with_part n es ps ≡ insert ps (place_of n ps) (n, es))
        → has_number (slice_get (p ∷ ps) (if b then 0 else suc (place_of n ps))) n ≡ false
        → with_part n es (p ∷ ps) ≡ insert (p ∷ ps) (if b then 0 else suc (place_of n ps)) (n, es)
    by true e f g =
        let low : nat_lt n p.0 ≡ true = grind (arith, nat_tests) in
        rw low refl
    by false e f g =
        let low : nat_lt n p.0 ≡ false = grind (arith, nat_tests) in
        let other : nat_eq n p.0 ≡ false = grind (arith, nat_tests) in
        rw (low, other) (ap (λ l. p ∷ l) (f g))

-- a place where a part stands is within the list
pub has-within : (ps : List Numbered) (k n : ℕ) → has_number (slice_get ps k) n ≡ true → k < length ps
has-within [] k n h = cc
has-within (p ∷ ps) zero n h = omega arith
has-within (p ∷ ps) (suc k) n h = let rest = has-within ps k n h in omega arith

pub place-within : (n : ℕ) (ps : List Numbered) → place_of n ps ≤ length ps
place-within n [] = omega arith
place-within n (p ∷ ps) = by (nat_le n p.0) (place-within n ps)
  where
    by : (b : Bool) → place_of n ps ≤ length ps → (if b then 0 else suc (place_of n ps)) ≤ suc (length ps)
    by true l = omega arith
    by false l = omega arith

-- a part below the number that is sought is passed
pub place-passed : (n i : ℕ) (p : Numbered) (ps : List Numbered) → i < length ps → p ≡ get_or ps i p → p.0 < n → place_of n (drop i ps) + i ≡ place_of n (drop (i + 1) ps) + (i + 1)
place-passed n i p ps l e low =
    let split : drop i ps ≡ p ∷ drop (suc i) ps = drop-cons ps i p l ∙ ap (λ q. q ∷ drop (suc i) ps) (sym e) in
    let passed : nat_le n p.0 ≡ false = grind (arith, nat_tests) in
    let one : i + 1 ≡ suc i = omega arith in
    let here : place_of n (p ∷ drop (suc i) ps) ≡ suc (place_of n (drop (suc i) ps)) = ap (λ b. if b then 0 else suc (place_of n (drop (suc i) ps))) passed in
    let sum : suc (place_of n (drop (suc i) ps)) + i ≡ place_of n (drop (suc i) ps) + suc i = omega arith in
    ap (λ l. place_of n l + i) split ∙ ap (λ k. k + i) here ∙ sum ∙ ap (λ k. place_of n (drop k ps) + k) (sym one)

-- a part that isn't is at the place
pub place-here : (n i : ℕ) (p : Numbered) (ps : List Numbered) → i < length ps → p ≡ get_or ps i p → n ≤ p.0 → place_of n (drop i ps) + i ≡ i
place-here n i p ps l e high =
    let split : drop i ps ≡ p ∷ drop (suc i) ps = drop-cons ps i p l ∙ ap (λ q. q ∷ drop (suc i) ps) (sym e) in
    let here : nat_le n p.0 ≡ true = grind (arith, nat_tests) in
    let none : 0 + i ≡ i = omega arith in
    ap (λ l. place_of n l + i) split ∙ ap (λ b. (if b then 0 else suc (place_of n (drop (suc i) ps))) + i) here ∙ none

-- parts with one more stay by rising number
below-with : (k n : ℕ) (es : List RouteEntry) (ps : List Numbered) → k < n → AllByRecursion (λ q. k < q.0) ps → AllByRecursion (λ q. k < q.0) (with_part n es ps)
below-with k n es [] l all = (l, tt)
below-with k n es (p ∷ ps) l all = by (nat_lt n p.0) (nat_eq n p.0) (below-with k n es ps l all.1)
  where
    by : (a b : Bool) → AllByRecursion (λ q. k < q.0) (with_part n es ps) → AllByRecursion (λ q. k < q.0) (if a then (n, es) ∷ p ∷ ps else if b then (n, es) ∷ ps else p ∷ with_part n es ps)
    by true b r = (l, all)
    by false true r = (l, all.1)
    by false false r = (all.0, r)

pub numbered-with : (n : ℕ) (es : List RouteEntry) (ps : List Numbered) → AreNumbered ps → AreNumbered (with_part n es ps)
numbered-with n es [] up = (tt, tt)
numbered-with n es (p ∷ ps) up = by (nat_lt n p.0) (nat_eq n p.0) refl refl (numbered-with n es ps up.1)
  where
    by : (a b : Bool) → nat_lt n p.0 ≡ a → nat_eq n p.0 ≡ b → AreNumbered (with_part n es ps) → AreNumbered (if a then (n, es) ∷ p ∷ ps else if b then (n, es) ∷ ps else p ∷ with_part n es ps)
    by true b e f r =
        let low : n < p.0 = grind (arith, nat_tests) in
        ((low, all-weaker (λ q. p.0 < q.0) (λ q. n < q.0) ps (λ q l. omega arith) up.0), up)
    by false true e f r =
        let same : n ≡ p.0 = grind (arith, nat_tests) in
        (subst (λ k. AllByRecursion (λ q. k < q.0) ps) (sym same) up.0, up.1)
    by false false e f r =
        let high : p.0 < n = grind (arith, nat_tests) in
        (below-with p.0 n es ps high up.0, r)

-- the entries of the parts from a number on, so many of them
abbrev from_on : ℕ → ℕ → List Numbered → Option (List RouteEntry)
from_on k zero ps = Some []
from_on k (suc n) ps = option_and_then (λ es. option_map (λ rest. es ++ rest) (from_on (suc k) n ps)) (lookup (nat_eq k) ps)

-- the same, taken from the end
from-last : (n k : ℕ) (ps : List Numbered) → from_on k (suc n) ps ≡ option_and_then (λ front. option_map (λ es. front ++ es) (lookup (nat_eq (k + n)) ps)) (from_on k n ps)
from-last zero k ps = let e : k + 0 ≡ k = omega arith in by (lookup (nat_eq k) ps) ∙ ap (λ j. option_map (λ es. [] ++ es) (lookup (nat_eq j) ps)) (sym e)
  where
    by : (o : Option (List RouteEntry)) → option_and_then (λ es. Some (es ++ [])) o ≡ option_map (λ es. [] ++ es) o
    by None = refl
    by (Some es) = ap Some (append-nil es)
from-last (suc n) k ps =
    let e : suc k + n ≡ k + suc n = omega arith in
    ap (λ o. option_and_then (λ es. option_map (λ rest. es ++ rest) o) (lookup (nat_eq k) ps)) (from-last n (suc k) ps)
    ∙ by (lookup (nat_eq k) ps) (from_on (suc k) n ps) (lookup (nat_eq (suc k + n)) ps)
    ∙ ap (λ j. option_and_then (λ front. option_map (λ es. front ++ es) (lookup (nat_eq j) ps)) (from_on k (suc n) ps)) e
  where
    by : (a b c : Option (List RouteEntry))
        → option_and_then (λ es. option_map (λ rest. es ++ rest) (option_and_then (λ front. option_map (λ fs. front ++ fs) c) b)) a
        ≡ option_and_then (λ front. option_map (λ es. front ++ es) c) (option_and_then (λ es. option_map (λ rest. es ++ rest) b) a)
    by None b c = refl
    by (Some a) None c = refl
    by (Some a) (Some b) None = refl
    by (Some a) (Some b) (Some c) = ap Some (sym (append_assoc a b c))

joined-from : (n : ℕ) (ps : List Numbered) → joined_below n ps ≡ from_on 0 n ps
joined-from zero ps = refl
joined-from (suc n) ps =
    let e : 0 + n ≡ n = omega arith in
    ap (λ o. option_and_then (λ front. option_map (λ es. front ++ es) (lookup (nat_eq n) ps)) o) (joined-from n ps)
    ∙ ap (λ j. option_and_then (λ front. option_map (λ es. front ++ es) (lookup (nat_eq j) ps)) (from_on 0 n ps)) (sym e)
    ∙ sym (from-last n 0 ps)

-- what is sought above a part's number isn't that part
from-above : (n k : ℕ) (p : Numbered) (ps : List Numbered) → p.0 < k → from_on k n (p ∷ ps) ≡ from_on k n ps
from-above zero k p ps l = refl
from-above (suc n) k p ps l =
    let other : nat_eq k p.0 ≡ false = grind (arith, nat_tests) in
    let rest = from-above n (suc k) p ps (omega arith) in
    rw (other, rest) refl

-- no part of rising numbers is the one that is sought below them
lookup-low : (k : ℕ) (ps : List Numbered) → AllByRecursion (λ q. k < q.0) ps → lookup (nat_eq k) ps ≡ None
lookup-low k [] all = refl
lookup-low k (p ∷ ps) all =
    let here : k < p.0 = all.0 in
    let other : nat_eq k p.0 ≡ false = grind (arith, nat_tests) in
    rw other (lookup-low k ps all.1)

-- the part at a place has at least that number, from the first one on
high : (m k : ℕ) (ps : List Numbered) → AreNumbered ps → AllByRecursion (λ q. k < q.0) ps → has_number (slice_get ps m) (k + m) ≡ false
high m k [] up all = refl
high zero k (p ∷ ps) up all =
    let here : k < p.0 = all.0 in
    let other : nat_eq p.0 (k + 0) ≡ false = grind (arith, nat_tests) in
    other
high (suc m) k (p ∷ ps) up all =
    let e : suc k + m ≡ k + suc m = omega arith in
    let here : k < p.0 = all.0 in
    sym (ap (λ j. has_number (slice_get ps m) j) e) ∙ high m (suc k) ps up.1 (all-weaker (λ q. p.0 < q.0) (λ q. suc k < q.0) ps (λ q l. omega arith) up.0)

-- parts that don't begin with the number that is sought
stand-other : (m k : ℕ) (p : Numbered) (ps : List Numbered) → AreNumbered (p ∷ ps) → k < p.0 → from_on k (suc m) (p ∷ ps) ≡ (if has_number (slice_get (p ∷ ps) m) (k + m) then Some (joined_all (take (suc m) (p ∷ ps))) else None)
stand-other m k p ps up low =
    let other : nat_eq k p.0 ≡ false = grind (arith, nat_tests) in
    let lows : AllByRecursion (λ q. k < q.0) ps = all-weaker (λ q. p.0 < q.0) (λ q. k < q.0) ps (λ q l. omega arith) up.0 in
    rw (other, lookup-low k ps lows, high m k (p ∷ ps) up (low, lows)) refl

after : (p : Numbered) (b : Bool) (l : List RouteEntry) (o : Option (List RouteEntry)) → o ≡ (if b then Some l else None) → option_map (λ rest. p.1 ++ rest) o ≡ (if b then Some (p.1 ++ l) else None)
after p true l o e = ap (option_map (λ rest. p.1 ++ rest)) e
after p false l o e = ap (option_map (λ rest. p.1 ++ rest)) e

-- and parts that do
stand-one : (k : ℕ) (p : Numbered) (ps : List Numbered) → k ≡ p.0 → from_on k 1 (p ∷ ps) ≡ (if has_number (slice_get (p ∷ ps) 0) (k + 0) then Some (joined_all (take 1 (p ∷ ps))) else None)
stand-one k p ps e =
    let same : nat_eq k p.0 ≡ true = grind (arith, nat_tests) in
    let here : nat_eq p.0 (k + 0) ≡ true = grind (arith, nat_tests) in
    rw (same, here) refl

stand-more : (m k : ℕ) (p : Numbered) (ps : List Numbered) → k ≡ p.0 → from_on (suc k) (suc m) ps ≡ (if has_number (slice_get ps m) (suc k + m) then Some (joined_all (take (suc m) ps)) else None) → from_on k (suc (suc m)) (p ∷ ps) ≡ (if has_number (slice_get (p ∷ ps) (suc m)) (k + suc m) then Some (joined_all (take (suc (suc m)) (p ∷ ps))) else None)
stand-more m k p ps e h =
    let same : nat_eq k p.0 ≡ true = grind (arith, nat_tests) in
    let above : from_on (suc k) (suc m) (p ∷ ps) ≡ from_on (suc k) (suc m) ps = from-above (suc m) (suc k) p ps (omega arith) in
    let sum : suc k + m ≡ k + suc m = omega arith in
    rw (same, above)
    (after p (has_number (slice_get ps m) (suc k + m)) (joined_all (take (suc m) ps)) (from_on (suc k) (suc m) ps) h
    ∙ ap (λ j. if has_number (slice_get ps m) j then Some (p.1 ++ joined_all (take (suc m) ps)) else None) sum)

-- all parts from a number on stand where the last of them stands at its place
stand-from : (m k : ℕ) (ps : List Numbered) → AreNumbered ps → AllByRecursion (λ q. k ≤ q.0) ps → from_on k (suc m) ps ≡ (if has_number (slice_get ps m) (k + m) then Some (joined_all (take (suc m) ps)) else None)
stand-from m k [] up all = refl
stand-from zero k (p ∷ ps) up all = by (nat_eq k p.0) refl
  where
    by : (b : Bool) → nat_eq k p.0 ≡ b → from_on k 1 (p ∷ ps) ≡ (if has_number (slice_get (p ∷ ps) 0) (k + 0) then Some (joined_all (take 1 (p ∷ ps))) else None)
    by true e = stand-one k p ps (grind (arith, nat_tests))
    by false e = let bound : k ≤ p.0 = all.0 in stand-other 0 k p ps up (grind (arith, nat_tests))
stand-from (suc m) k (p ∷ ps) up all = by (nat_eq k p.0) refl (λ u. stand-from m (suc k) ps up.1 u)
  where
    by : (b : Bool) → nat_eq k p.0 ≡ b → (AllByRecursion (λ q. suc k ≤ q.0) ps → from_on (suc k) (suc m) ps ≡ (if has_number (slice_get ps m) (suc k + m) then Some (joined_all (take (suc m) ps)) else None))
        → from_on k (suc (suc m)) (p ∷ ps) ≡ (if has_number (slice_get (p ∷ ps) (suc m)) (k + suc m) then Some (joined_all (take (suc (suc m)) (p ∷ ps))) else None)
    by true e h =
        let same : k ≡ p.0 = grind (arith, nat_tests) in
        stand-more m k p ps same (h (all-weaker (λ q. p.0 < q.0) (λ q. suc k ≤ q.0) ps (λ q l. omega arith) up.0))
    by false e h = let bound : k ≤ p.0 = all.0 in stand-other (suc m) k p ps up (grind (arith, nat_tests))

all-least : (ps : List Numbered) → AllByRecursion (λ q. 0 ≤ q.0) ps
all-least [] = tt
all-least (p ∷ ps) = (omega arith, all-least ps)

-- the parts below a number, where all of them stand
pub all-joined : (n : ℕ) (ps : List Numbered) → AreNumbered ps → joined_below n ps ≡ (if are_all n ps then Some (joined_all (take n ps)) else None)
all-joined zero ps up = refl
all-joined (suc m) ps up =
    let e : 0 + m ≡ m = omega arith in
    joined-from (suc m) ps ∙ stand-from m 0 ps up (all-least ps)
    ∙ ap (λ j. if has_number (slice_get ps m) j then Some (joined_all (take (suc m) ps)) else None) e

-- the first entry for a host: of the part at a place, or of those after
pub found-at : (t : RouteEntry → Bool) (i : ℕ) (p : Numbered) (ps : List Numbered) → i < length ps → p ≡ get_or ps i p → find t (joined_all (drop i ps)) ≡ option_or (find t p.1) (find t (joined_all (drop (i + 1) ps)))
found-at t i p ps l e =
    let split : drop i ps ≡ p ∷ drop (suc i) ps = drop-cons ps i p l ∙ ap (λ q. q ∷ drop (suc i) ps) (sym e) in
    let one : suc i ≡ i + 1 = omega arith in
    ap (λ l. find t (joined_all l)) split
    ∙ find-append t p.1 (joined_all (drop (suc i) ps))
    ∙ ap (λ k. option_or (find t p.1) (find t (joined_all (drop k ps)))) one

pub first-some : {A B : Type 0} (f : A → B) (b : B) (o r : Option A) → Some b ≡ option_map f o → option_map f o ≡ option_map f (option_or o r)
first-some f b None r e = cc
first-some f b (Some a) r e = refl

pub first-none : {A B : Type 0} (f : A → B) (o r : Option A) → None ≡ option_map f o → option_or o r ≡ r
first-none f None r e = refl
first-none f (Some a) r e = cc

-- parts stay by rising number, whether one came to them or not
pub numbered-either : (r : Result (Unit {0}) AllocError) (n : ℕ) (es : List RouteEntry) (ps qs : List Numbered) → OnOk r (qs ≡ with_part n es ps) → OnErr r (qs ≡ ps) → AreNumbered ps → AreNumbered qs
numbered-either (Ok u) n es ps qs ok err up = subst AreNumbered (sym ok) (numbered-with n es ps up)
numbered-either (Err e) n es ps qs ok err up = subst AreNumbered (sym err) up

pub numbered-alone : (r : Result (Unit {0}) AllocError) (n : ℕ) (es : List RouteEntry) (ps qs : List Numbered) → OnOk r (qs ≡ (n, es) ∷ []) → OnErr r (qs ≡ ps) → AreNumbered ps → AreNumbered qs
numbered-alone (Ok u) n es ps qs ok err up = subst AreNumbered (sym ok) (tt, tt)
numbered-alone (Err e) n es ps qs ok err up = subst AreNumbered (sym err) up
