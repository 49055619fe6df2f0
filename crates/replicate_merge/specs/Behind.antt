-- The ways between a node and one behind it.
use Rattle.std.specs.Prelude.{◌≡◌, ℕ, ◌+◌, ℤ, false, List, [], ◌∷◌, ◌++◌, slice_get, Some}
use Rattle.probe.specs.Keeping.{has_walk}
use Rattle.replicate_merge.specs.declared.way.Way.{Way}
use Rattle.replicate_merge.specs.Cables.{both_ways}

-- The ways between a node and the one behind its turn were added, or that isn't there.
pub data AddsBehind (walks : List (List ℤ)) (walk : List ℤ) (turn : ℤ) (n : ℕ) (old new : List Way) : Type 0 where
  is_there : (at : ℕ) → slice_get walks at ≡ Some (walk ++ turn ∷ []) → new ≡ old ++ both_ways n turn (at + 1)
      → AddsBehind walks walk turn n old new
  is_none : has_walk walks (walk ++ turn ∷ []) ≡ false → new ≡ old → AddsBehind walks walk turn n old new
