-- Which channel a packet may wait for (channel dependencies, Dally and Seitz).
use Rattle.std.specs.Prelude.{◌≡◌, ℕ, List, ◌∷◌, slice_get, Some}

-- two channels stand next to each other in a list, in this order
pub data IsNext {C : Type 0} (c d : C) : List C → Type 0 where
  here : {cs : List C} → IsNext c d (c ∷ d ∷ cs)
  later : {b : C} {cs : List C} → IsNext c d cs → IsNext c d (b ∷ cs)

-- one channel comes directly before another in one of these routes, each by its channels
pub record IsBefore {C : Type 0} (routes : List (List C)) (c d : C) : Type 0 where
  pub place : ℕ
  pub route : List C
  pub there : slice_get routes place ≡ Some route
  pub next : IsNext c d route

-- steps of a relation from one channel to another, at least one
pub data Chain {C : Type 0} (Before : C → C → Type 0) : C → C → Type 0 where
  one : {c d : C} → Before c d → Chain Before c d
  more : {c d e : C} → Before c d → Chain Before d e → Chain Before c e

-- no channel comes before itself, directly or over others
abbrev pub HasNoCycle : {C : Type 0} → (C → C → Type 0) → Type 0
HasNoCycle {C} Before = (c : C) → ¬ Chain Before c c
