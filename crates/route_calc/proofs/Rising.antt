-- The place of a vertex rises with its level.
use Rattle.std.proofs.Common.{◌≡◌, ◌<◌, ◌≤◌, ℕ, List, [], ◌∷◌, length, get_or, Bool, true, false, cond, sym, ◌∙◌, ap, refl, arith, inl, inr, nat_lt, Some}
use Rattle.std.specs.List.{filter}
use Rattle.std.proofs.lemmas.Bool.{false≢true, lt-ltb}
use Rattle.std.proofs.lemmas.Bool.Decides.{nat_tests}
use Rattle.journal_defs.specs.Counting.{numbers_below}
use Rattle.journal_defs.proofs.Members.{IsMember, number-member}
use Rattle.map_defs.specs.NetMap.{NetMap, MapPort, map_far}
use Rattle.map_defs.specs.Orientation.{level, levels, stands_before, place_among, order_of, falls_to, is_up}
use Rattle.updown.proofs.Filters.{map-at}
use Rattle.updown.proofs.Found.{levels-long}

-- a test that holds where another does keeps no less
filter-wider : (test wide : ℕ → Bool) (xs : List ℕ) → ((k : ℕ) → test k ≡ true → wide k ≡ true) → length (filter test xs) ≤ length (filter wide xs)
filter-wider test wide [] implies = omega arith
filter-wider test wide (x ∷ xs) implies = by (test x) (wide x) refl refl (filter-wider test wide xs implies)
  where
    by : (s t : Bool) → test x ≡ s → wide x ≡ t → length (filter test xs) ≤ length (filter wide xs) → length (cond s (x ∷ filter test xs) (filter test xs)) ≤ length (cond t (x ∷ filter wide xs) (filter wide xs))
    by true true p q l = omega arith
    by true false p q l = absurd (false≢true (sym q ∙ implies x p))
    by false true p q l = omega arith
    by false false p q l = l

-- and more, where it holds of one more
filter-more : (test wide : ℕ → Bool) (xs : List ℕ) (u : ℕ) → ((k : ℕ) → test k ≡ true → wide k ≡ true) → IsMember u xs → test u ≡ false → wide u ≡ true → length (filter test xs) < length (filter wide xs)
filter-more test wide [] u implies m e f = absurd m
filter-more test wide (x ∷ xs) u implies (inl p) e f = let kept = filter-wider test wide xs implies in rw (ap test (sym p) ∙ e, ap wide (sym p) ∙ f) (omega arith)
filter-more test wide (x ∷ xs) u implies (inr m) e f = by (test x) (wide x) refl refl (filter-more test wide xs u implies m e f)
  where
    by : (s t : Bool) → test x ≡ s → wide x ≡ t → length (filter test xs) < length (filter wide xs) → length (cond s (x ∷ filter test xs) (filter test xs)) < length (cond t (x ∷ filter wide xs) (filter wide xs))
    by true true p q l = omega arith
    by true false p q l = absurd (false≢true (sym q ∙ implies x p))
    by false true p q l = omega arith
    by false false p q l = l

before-less : (ls : List ℕ) (u v : ℕ) → get_or ls u 0 < get_or ls v 0 → stands_before ls u v ≡ true
before-less ls u v l = rw (lt-ltb (get_or ls u 0) (get_or ls v 0) l) refl

before-itself : (ls : List ℕ) (v : ℕ) → stands_before ls v v ≡ false
before-itself ls v = grind (arith, nat_tests)

before-trans : (ls : List ℕ) (u v w : ℕ) → stands_before ls u v ≡ true → stands_before ls v w ≡ true → stands_before ls u w ≡ true
before-trans ls u v w e f = grind (arith, nat_tests)

place-rises : (ls : List ℕ) (u v : ℕ) → u < length ls → get_or ls u 0 < get_or ls v 0 → place_among ls u < place_among ls v
place-rises ls u v l e = filter-more (λ k. stands_before ls k u) (λ k. stands_before ls k v) (numbers_below (length ls)) u (λ k p. before-trans ls k u v p (before-less ls u v e)) (number-member (length ls) u l) (before-itself ls u) (before-less ls u v e)

pub order-rises : (m : NetMap) (u v : ℕ) → u < length m.vertices → v < length m.vertices → level m u < level m v → get_or (order_of m) u 0 < get_or (order_of m) v 0
order-rises m u v l k e =
    let long = levels-long m in
    let lu : u < length (levels m) = omega arith in
    let lv : v < length (levels m) = omega arith in
    let pu = map-at (place_among (levels m)) (length (levels m)) u 0 lu in
    let pv = map-at (place_among (levels m)) (length (levels m)) v 0 lv in
    let iu = map-at (level m) (length m.vertices) u 0 l in
    let iv = map-at (level m) (length m.vertices) v 0 k in
    let less : get_or (levels m) u 0 < get_or (levels m) v 0 = omega arith in
    let rises = place-rises (levels m) u v lu less in
    omega arith

-- a channel to a lower level is up, and back it is down
pub up-channel : (m : NetMap) (d e : MapPort) → map_far m d ≡ Some e → e.v < length m.vertices → d.v < length m.vertices → level m e.v < level m d.v → is_up m (order_of m) d ≡ true
up-channel m d e far l k less = ap (falls_to (order_of m) d.v) far ∙ lt-ltb (get_or (order_of m) e.v 0) (get_or (order_of m) d.v 0) (order-rises m e.v d.v l k less)

pub down-channel : (m : NetMap) (d e : MapPort) → map_far m d ≡ Some e → e.v < length m.vertices → d.v < length m.vertices → level m d.v < level m e.v → is_up m (order_of m) d ≡ false
down-channel m d e far l k less = ap (falls_to (order_of m) d.v) far ∙ no-less (get_or (order_of m) e.v 0) (get_or (order_of m) d.v 0) (order-rises m d.v e.v k l less)
  where
    no-less : (a b : ℕ) → b < a → nat_lt a b ≡ false
    no-less a b h = grind (arith, nat_tests)
