-- The places of a map's vertices are an order.
use Rattle.std.proofs.Common.{◌≡◌, ◌≢◌, ◌<◌, ◌≤◌, ℕ, zero, suc, List, [], ◌∷◌, map, length, Bool, true, false, cond, sym, ◌∙◌, subst, ap, refl, arith, inl, inr}
use Rattle.std.specs.List.{AllByRecursion, filter}
use Rattle.std.proofs.lemmas.Bool.{false≢true}
use Rattle.std.proofs.lemmas.Bool.Decides.{nat_tests}
use Rattle.std.proofs.lemmas.List.{map-append, length-map}
use Rattle.net_defs.specs.Network.{Apart}
use Rattle.net_defs.proofs.Distinct.{apart-push, all-push}
use Rattle.journal_defs.specs.Counting.{numbers_below}
use Rattle.journal_defs.proofs.Members.{IsMember, all-map, number-member, length-numbers}
use Rattle.map_defs.specs.Orientation.{level, levels, stands_before, place_among, places_by, order_of, IsOrder}
use Rattle.map_defs.specs.Laws.{PlacesAreAnOrder}

-- what holds of each number below one holds over their list
pub all-numbers : (P : ℕ → Type 0) (n : ℕ) → ((k : ℕ) → k < n → P k) → AllByRecursion P (numbers_below n)
all-numbers P zero all = tt
all-numbers P (suc n) all = all-push P (numbers_below n) n (all-numbers P n (λ k l. all k (omega arith))) (all n (omega arith))

apart-map : (f : ℕ → ℕ) (n : ℕ) → ((u v : ℕ) → u < n → v < n → u ≢ v → f u ≢ f v) → Apart (map f (numbers_below n))
apart-map f zero differ = tt
apart-map f (suc n) differ =
    let before = apart-map f n (λ u v l k d. differ u v (omega arith) (omega arith) d) in
    let new : AllByRecursion (λ y. f n ≢ y) (map f (numbers_below n)) = all-map (λ y. f n ≢ y) f (numbers_below n) (all-numbers (λ k. f n ≢ f k) n (λ k l. differ n k (omega arith) (omega arith) (λ e. absurd (omega arith)))) in
    subst Apart (sym (map-append f (numbers_below n) (n ∷ []))) (apart-push (map f (numbers_below n)) (f n) before new)

-- how much a filter keeps
filter-most : (test : ℕ → Bool) (xs : List ℕ) → length (filter test xs) ≤ length xs
filter-most test [] = omega arith
filter-most test (x ∷ xs) = by (test x) (filter-most test xs)
  where
    by : (b : Bool) → length (filter test xs) ≤ length xs → length (cond b (x ∷ filter test xs) (filter test xs)) ≤ suc (length xs)
    by true l = omega arith
    by false l = omega arith

filter-less : (test : ℕ → Bool) (xs : List ℕ) (u : ℕ) → IsMember u xs → test u ≡ false → length (filter test xs) < length xs
filter-less test [] u m e = absurd m
filter-less test (x ∷ xs) u (inl p) e = let kept = filter-most test xs in rw (ap test (sym p) ∙ e) (omega arith)
filter-less test (x ∷ xs) u (inr m) e = by (test x) (filter-less test xs u m e)
  where
    by : (b : Bool) → length (filter test xs) < length xs → length (cond b (x ∷ filter test xs) (filter test xs)) < suc (length xs)
    by true l = omega arith
    by false l = omega arith

-- a test that holds where another does keeps no less
filter-wider : (test wide : ℕ → Bool) (xs : List ℕ) → ((k : ℕ) → test k ≡ true → wide k ≡ true) → length (filter test xs) ≤ length (filter wide xs)
filter-wider test wide [] implies = omega arith
filter-wider test wide (x ∷ xs) implies = by (test x) (wide x) refl refl (filter-wider test wide xs implies)
  where
    by : (s t : Bool) → test x ≡ s → wide x ≡ t → length (filter test xs) ≤ length (filter wide xs) → length (cond s (x ∷ filter test xs) (filter test xs)) ≤ length (cond t (x ∷ filter wide xs) (filter wide xs))
    by true true p q l = omega arith
    by true false p q l = absurd (false≢true (sym q ∙ implies x p))
    by false true p q l = omega arith
    by false false p q l = l

filter-strict : (test wide : ℕ → Bool) (xs : List ℕ) (u : ℕ) → ((k : ℕ) → test k ≡ true → wide k ≡ true) → IsMember u xs → test u ≡ false → wide u ≡ true → length (filter test xs) < length (filter wide xs)
filter-strict test wide [] u implies m e f = absurd m
filter-strict test wide (x ∷ xs) u implies (inl p) e f = let kept = filter-wider test wide xs implies in rw (ap test (sym p) ∙ e, ap wide (sym p) ∙ f) (omega arith)
filter-strict test wide (x ∷ xs) u implies (inr m) e f = by (test x) (wide x) refl refl (filter-strict test wide xs u implies m e f)
  where
    by : (s t : Bool) → test x ≡ s → wide x ≡ t → length (filter test xs) < length (filter wide xs) → length (cond s (x ∷ filter test xs) (filter test xs)) < length (cond t (x ∷ filter wide xs) (filter wide xs))
    by true true p q l = omega arith
    by true false p q l = absurd (false≢true (sym q ∙ implies x p))
    by false true p q l = omega arith
    by false false p q l = l

-- the order by level and number is strict
not_before_itself : (ls : List ℕ) (v : ℕ) → stands_before ls v v ≡ false
not_before_itself ls v = grind (arith, nat_tests)

before-trans : (ls : List ℕ) (u v w : ℕ) → stands_before ls u v ≡ true → stands_before ls v w ≡ true → stands_before ls u w ≡ true
before-trans ls u v w e f = grind (arith, nat_tests)

pub before-total : (ls : List ℕ) (u v : ℕ) → u ≢ v → stands_before ls u v ≡ false → stands_before ls v u ≡ true
before-total ls u v d e = grind (arith, nat_tests)

pub place-rises : (ls : List ℕ) (u v : ℕ) → u < length ls → stands_before ls u v ≡ true → place_among ls u < place_among ls v
place-rises ls u v l e = filter-strict (λ k. stands_before ls k u) (λ k. stands_before ls k v) (numbers_below (length ls)) u (λ k p. before-trans ls k u v p e) (number-member (length ls) u l) (not_before_itself ls u) e

places-differ : (ls : List ℕ) (u v : ℕ) → u < length ls → v < length ls → u ≢ v → place_among ls u ≢ place_among ls v
places-differ ls u v l k d e = by (stands_before ls u v) refl
  where
    by : (b : Bool) → stands_before ls u v ≡ b → ⊥
    by true p = let less = place-rises ls u v l p in omega arith
    by false p = let less = place-rises ls v u k (before-total ls u v d p) in omega arith

pub place-below : (ls : List ℕ) (v : ℕ) → v < length ls → place_among ls v < length ls
place-below ls v l = let less = filter-less (λ k. stands_before ls k v) (numbers_below (length ls)) v (number-member (length ls) v l) (not_before_itself ls v) in let all = length-numbers (length ls) in omega arith

places-order : (ls : List ℕ) → IsOrder (places_by ls) (length ls)
places-order ls = record {
  one_each = length-map (numbers_below (length ls)) (place_among ls) ∙ length-numbers (length ls);
  below = all-map (λ k. k < length ls) (place_among ls) (numbers_below (length ls)) (all-numbers (λ k. place_among ls k < length ls) (length ls) (place-below ls));
  once = apart-map (place_among ls) (length ls) (places-differ ls);
}

pub places_are_an_order : PlacesAreAnOrder
places_are_an_order m = subst (IsOrder (order_of m)) (length-map (numbers_below (length m.vertices)) (level m) ∙ length-numbers (length m.vertices)) (places-order (levels m))
