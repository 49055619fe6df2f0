-- Vertices sorted by level, then by number, stand at their places.
use Rattle.std.proofs.Common.{◌≡◌, ◌≢◌, ◌<◌, ◌≤◌, ◌+◌, ◌-◌, ℕ, zero, suc, List, length, get_or, Bool, true, false, nat_eq, ap, sym, ◌∙◌, subst, refl, arith, ◌⊎◌, inl, inr}
use Rattle.std.specs.Prelude.{All, Contains, slice_index, slice_set}
use Rattle.std.specs.List.{IsDistinct}
use Rattle.std.specs.Ordering.{is_lt}
use Rattle.std.proofs.lemmas.Bool.{cases_eq}
use Rattle.std.proofs.lemmas.Bool.Decides.{nat_tests}
use Rattle.std.proofs.lemmas.Grind.{same_number_lists}
use Rattle.std.proofs.lemmas.List.{get_or_default, length-map, length-set, get_or-set_same, get_or-set_other}
use Rattle.std.proofs.lemmas.List.Sorted.{length_permutation, All-permutation, Contains-permutation}
use Rattle.std.proofs.lemmas.Map.Keys.{apart_from_distinct, IsDistinct-IsPermutation, IsDistinct-from_apart}
use Rattle.journal_defs.specs.Counting.{numbers_below}
use Rattle.journal_defs.proofs.Members.{length-numbers}
use Rattle.map_defs.specs.Orientation.{stands_before, place_among, places_by}
use Rattle.map_defs.proofs.Places.{place-rises, place-below}
use Rattle.updown.specs.Sorted.{by_level, levelled, AreByLevel}
use Rattle.updown.proofs.Filters.{map-at}

-- two vertices with their levels are the same vertex
abbrev same : ℕ × ℕ → ℕ × ℕ → Bool
same x y = nat_eq x.1 y.1

-- a vertex with its level
pub record IsLevelled (ls : List ℕ) (x : ℕ × ℕ) : Type 0 where
  pub there : x.1 < length ls
  pub level : x.0 ≡ slice_index ls x.1

levelled-long : (ls : List ℕ) → length (levelled ls) ≡ length ls
levelled-long ls = length-map (numbers_below (length ls)) (λ v. (slice_index ls v, v)) ∙ length-numbers (length ls)

levelled-at : (ls : List ℕ) (k : ℕ) (d : ℕ × ℕ) → k < length ls → get_or (levelled ls) k d ≡ (slice_index ls k, k)
levelled-at ls k d l = map-at (λ v. (slice_index ls v, v)) (length ls) k d l

all-levelled : (ls : List ℕ) → All (IsLevelled ls) (levelled ls)
all-levelled ls k d l =
    let there : k < length ls = subst (λ n. k < n) (levelled-long ls) l in
    subst (IsLevelled ls) (sym (levelled-at ls k d there)) (record { there = there; level = refl })

differ-levelled : (ls : List ℕ) → IsDistinct same (levelled ls)
differ-levelled ls = IsDistinct-from_apart same (levelled ls) apart
  where
    apart : (i j : ℕ) (d : ℕ × ℕ) → i < j → j < length (levelled ls) → same (get_or (levelled ls) i d) (get_or (levelled ls) j d) ≡ false
    apart i j d l k =
        let long = levelled-long ls in
        rw (levelled-at ls i d (omega arith), levelled-at ls j d (omega arith)) (grind (arith, nat_tests))

same-flips : (x y : ℕ × ℕ) → same x y ≡ same y x
same-flips x y = grind (arith, nat_tests)

-- what is not less the other way stands before, unless it is the same vertex
stands : (ls : List ℕ) (x y : ℕ × ℕ) → IsLevelled ls x → IsLevelled ls y → same x y ≡ false → is_lt (by_level y x) ≡ false → stands_before ls x.1 y.1 ≡ true
stands ls x y a b differ up = by a.level b.level differ up
  where
    by : x.0 ≡ slice_index ls x.1 → y.0 ≡ slice_index ls y.1 → same x y ≡ false → is_lt (by_level y x) ≡ false → stands_before ls x.1 y.1 ≡ true
    by p q d u = grind (arith, nat_tests)

-- the vertex at a place of a list
abbrev pub vertex_at : List (ℕ × ℕ) → ℕ → ℕ
vertex_at xs k = (get_or xs k (0, 0)).1

module _ (ls : List ℕ) (xs : List (ℕ × ℕ)) (s : AreByLevel ls xs) where
  long : length xs ≡ length ls
  long = length_permutation (levelled ls) xs s.all ∙ levelled-long ls

  each : All (IsLevelled ls) xs
  each = All-permutation (IsLevelled ls) (levelled ls) xs s.all (all-levelled ls)

  differ : IsDistinct same xs
  differ = IsDistinct-IsPermutation same same-flips (levelled ls) xs s.all (differ-levelled ls)

  -- the place rises from each vertex to the next
  next : (k j : ℕ) → j ≡ k + 1 → j < length ls → place_among ls (vertex_at xs k) < place_among ls (vertex_at xs j)
  next k j e l =
      let n = long in
      let a = each k (0, 0) (omega arith) in
      let b = each j (0, 0) (omega arith) in
      let up = subst (λ i. is_lt (by_level (get_or xs i (0, 0)) (get_or xs k (0, 0))) ≡ false) (sym e) (s.rise k (0, 0) (omega arith) (omega arith)) in
      let apart = apart_from_distinct same xs k j (0, 0) differ (omega arith) (omega arith) in
      place-rises ls (vertex_at xs k) (vertex_at xs j) a.there (stands ls (get_or xs k (0, 0)) (get_or xs j (0, 0)) a b apart up)

  at_least : (k : ℕ) → k < length ls → k ≤ place_among ls (vertex_at xs k)
  at_least zero l = omega arith
  at_least (suc k) l =
      let before = at_least k (omega arith) in
      let more = next k (suc k) (omega arith) l in
      omega arith

  at_most : (m k : ℕ) → k + m + 1 ≡ length ls → place_among ls (vertex_at xs k) ≤ k
  at_most zero k e =
      let n = long in
      let below = place-below ls (vertex_at xs k) (each k (0, 0) (omega arith)).there in
      omega arith
  at_most (suc m) k e =
      let more = next k (suc k) (omega arith) (omega arith) in
      let rest = at_most m (suc k) (omega arith) in
      omega arith

  placed : (k : ℕ) → k < length ls → place_among ls (vertex_at xs k) ≡ k
  placed k l =
      let least = at_least k l in
      let most = at_most (length ls - (k + 1)) k (omega arith) in
      omega arith

-- the vertices that stand before a place have their places
pub record AreWritten (ls : List ℕ) (xs : List (ℕ × ℕ)) (place : ℕ) (order : List ℕ) : Type 0 where
  pub whole : length order ≡ length ls
  pub each : (k : ℕ) → k < place → get_or order (vertex_at xs k) 0 ≡ k

pub vertices-long : (ls : List ℕ) (xs : List (ℕ × ℕ)) → AreByLevel ls xs → length xs ≡ length ls
vertices-long ls xs s = long ls xs s

pub vertex-there : (ls : List ℕ) (xs : List (ℕ × ℕ)) → AreByLevel ls xs → (k : ℕ) → k < length xs → vertex_at xs k < length ls
vertex-there ls xs s k l = (each ls xs s k (0, 0) l).there

pub written-next : (ls : List ℕ) (xs : List (ℕ × ℕ)) → AreByLevel ls xs → (place : ℕ) (order : List ℕ) → place < length xs → AreWritten ls xs place order → AreWritten ls xs (place + 1) (slice_set order (vertex_at xs place) place)
written-next ls xs s place order l w = record {
  whole = length-set order (vertex_at xs place) place ∙ w.whole;
  each = λ k m. by k m (cases_eq k place);
}
  where
    there : vertex_at xs place < length order
    there = subst (λ n. vertex_at xs place < n) (sym w.whole) (vertex-there ls xs s place l)

    by : (k : ℕ) → k < place + 1 → ((k ≡ place) ⊎ (k ≢ place)) → get_or (slice_set order (vertex_at xs place) place) (vertex_at xs k) 0 ≡ k
    by k m (inl e) = ap (λ i. get_or (slice_set order (vertex_at xs place) place) (vertex_at xs i) 0) e ∙ get_or-set_same order (vertex_at xs place) place 0 there ∙ sym e
    by k m (inr d) = get_or-set_other order (vertex_at xs place) (vertex_at xs k) place 0 other ∙ w.each k (omega arith)
      where
        other : vertex_at xs k ≢ vertex_at xs place
        other e =
            let n = long ls xs s in
            let a = placed ls xs s k (omega arith) in
            let b = placed ls xs s place (omega arith) in
            d (sym a ∙ ap (place_among ls) e ∙ b)

-- each vertex stands somewhere, so all places are written at the end
pub written-all : (ls : List ℕ) (xs : List (ℕ × ℕ)) → AreByLevel ls xs → (order : List ℕ) → AreWritten ls xs (length xs) order → order ≡ places_by ls
written-all ls xs s order w = same_number_lists order (places_by ls) (w.whole ∙ sym whole) (λ v l. at v (subst (λ n. v < n) w.whole l))
  where
    whole : length (places_by ls) ≡ length ls
    whole = length-map (numbers_below (length ls)) (place_among ls) ∙ length-numbers (length ls)

    at : (v : ℕ) → v < length ls → get_or order v 0 ≡ get_or (places_by ls) v 0
    at v l = found (Contains-permutation (levelled ls) xs (slice_index ls v, v) s.all (v, subst (λ n. v < n) (sym (levelled-long ls)) l, levelled-at ls v (slice_index ls v, v) l))
      where
        found : Contains xs (slice_index ls v, v) → get_or order v 0 ≡ get_or (places_by ls) v 0
        found c =
            let k = c.0 in
            let n = long ls xs s in
            let here : vertex_at xs k ≡ v = ap (λ (x : ℕ × ℕ). x.1) (get_or_default xs k (0, 0) (slice_index ls v, v) c.1 ∙ c.2) in
            let mine = w.each k c.1 in
            let is = placed ls xs s k (omega arith) in
            ap (λ i. get_or order i 0) (sym here) ∙ mine ∙ sym is ∙ ap (place_among ls) here ∙ sym (map-at (place_among ls) (length ls) v 0 l)
