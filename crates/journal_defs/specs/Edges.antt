-- Distances in a graph that is given by its edges, with a test of which vertices are the same.
use Rattle.std.specs.Prelude.{◌≡◌, ◌⊎◌, ℕ, zero, suc, Bool, List, [], ◌∷◌, ◌++◌, if◌then◌else◌}
use Rattle.std.specs.List.{list_any}
use Rattle.journal_defs.specs.Counting.{count_failing}

-- an edge joins two vertices, one way or the other
abbrev pub IsEdge : {V : Type 0} → List (V × V) → V → V → Type 0
IsEdge [] v w = ⊥
IsEdge (e ∷ es) v w = ((e.0 ≡ v) × (e.1 ≡ w)) ⊎ (((e.1 ≡ v) × (e.0 ≡ w)) ⊎ IsEdge es v w)

-- a path of so many edges from a vertex
pub data Steps {V : Type 0} (edges : List (V × V)) (x : V) : ℕ → V → Type 0 where
  start : Steps edges x zero x
  step : {m : ℕ} {v w : V} → Steps edges x m v → IsEdge edges v w → Steps edges x (suc m) w

-- a vertex is one of these
abbrev pub is_among : {V : Type 0} → (V → V → Bool) → List V → V → Bool
is_among same vs v = list_any (same v) vs

-- the second of two joined vertices, where the first is among these
abbrev pub other_side : {V : Type 0} → (V → V → Bool) → List V → V → V → List V
other_side same vs v w = if is_among same vs v then w ∷ [] else []

-- the vertices that an edge joins to these
abbrev pub beside : {V : Type 0} → (V → V → Bool) → List (V × V) → List V → List V
beside same [] vs = []
beside same (e ∷ es) vs = other_side same vs e.0 e.1 ++ (other_side same vs e.1 e.0 ++ beside same es vs)

-- the vertices within so many edges of one
abbrev pub within : {V : Type 0} → (V → V → Bool) → List (V × V) → V → ℕ → List V
within same edges x zero = x ∷ []
within same edges x (suc m) = x ∷ beside same edges (within same edges x m)

-- the fewest edges between two vertices: the number of all vertices where no path joins them
abbrev pub edges_between : {V : Type 0} → (V → V → Bool) → List (V × V) → ℕ → V → V → ℕ
edges_between same edges all x y = count_failing all (λ m. is_among same (within same edges x m) y)
