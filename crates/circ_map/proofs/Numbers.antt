-- The number of a vertex among those that are kept, found by halves.
use Rattle.std.proofs.Common.{◌≡◌, ◌<◌, ◌≤◌, ℕ, List, get_or, length, Option, Some, None, Result, Ok, Err, sym, ◌∙◌, ap, arith, ◌⊎◌, inl, inr, refl}
use Rattle.std.specs.Prelude.{slice_get}
use Rattle.std.specs.Result.{MatchResult}
use Rattle.std.specs.Ordering.{nat_cmp}
use Rattle.std.specs.List.Sorted.{IsBinarySearchResult}
use Rattle.std.proofs.lemmas.Bool.{cases_order}
use Rattle.std.proofs.lemmas.List.Sorted.{searched}
use Rattle.std.proofs.lemmas.Option.{slice_get-get_or, slice_get_within}
use Rattle.circ_map.specs.Inside.{IsRising, number_in}
use Rattle.circ_map.proofs.Without.{number-is, number-there}

at : (kept : List ℕ) (i : ℕ) → i < length kept → slice_get kept i ≡ Some (get_or kept i 0)
at kept i l = slice_get-get_or kept i 0 l

value : (kept : List ℕ) (i v : ℕ) → slice_get kept i ≡ Some v → get_or kept i 0 ≡ v
value kept i v e = let two : Some (get_or kept i 0) ≡ Some v = sym (at kept i (slice_get_within kept i v e)) ∙ e in cc

rises : (kept : List ℕ) → IsRising kept → (i j : ℕ) → i ≤ j → j < length kept → get_or kept i 0 ≤ get_or kept j 0
rises kept rise i j l m = by (cases_order i j)
  where
    by : (i ≡ j) ⊎ ((i < j) ⊎ (j < i)) → get_or kept i 0 ≤ get_or kept j 0
    by (inl e) = let same : get_or kept i 0 ≡ get_or kept j 0 = ap (λ k. get_or kept k 0) e in omega arith
    by (inr (inl n)) = let k = rise i j (get_or kept i 0) (get_or kept j 0) n (at kept i (omega arith)) (at kept j m) in omega arith
    by (inr (inr n)) = absurd (omega arith)

-- a search by halves finds the number, or that there is none
pub number-searched : (kept : List ℕ) (v : ℕ) (r : Result ℕ ℕ) → IsRising kept → IsBinarySearchResult (λ y. nat_cmp y v) kept r → MatchResult r (λ i. (number_in kept v ≡ Some i) × (i < length kept)) (λ i. number_in kept v ≡ None)
number-searched kept v (Ok i) rise found =
    let s = searched kept v (Ok i) found (rises kept rise) in
    (number-is kept v i rise (at kept i s.0 ∙ ap Some s.1), s.0)
number-searched kept v (Err i) rise found = none (number_in kept v) refl
  where
    none : (o : Option ℕ) → number_in kept v ≡ o → number_in kept v ≡ None
    none None p = p
    none (Some k) p = absurd (by (cases_order k i))
      where
        there : slice_get kept k ≡ Some v
        there = number-there kept v k p

        low : k < length kept
        low = slice_get_within kept k v there

        is : get_or kept k 0 ≡ v
        is = value kept k v there

        above : i ≤ k → ⊥
        above l = let s = searched kept v (Err i) found (rises kept rise) in let a = s.2 k l low in let e = is in omega arith

        by : (k ≡ i) ⊎ ((k < i) ⊎ (i < k)) → ⊥
        by (inl e) = above (omega arith)
        by (inr (inl l)) = let s = searched kept v (Err i) found (rises kept rise) in let a = s.1 k l in let e = is in omega arith
        by (inr (inr l)) = above (omega arith)
