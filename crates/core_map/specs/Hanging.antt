-- Marks of what a walk found to be outside.
use Rattle.std.specs.Prelude.{◌≡◌, ℕ, ◌<◌, ◌≤◌, ◌+◌, true, false, Bool, List, length, slice_index_or, slice_set}
use Rattle.std.specs.Prelude.{nat_eq, if◌then◌else◌}
use Rattle.map_defs.specs.NetMap.{NetMap}
use Rattle.core_map.specs.Walking.{WalkState, EndsAt, Hangs, number_in}

-- marks with that of a vertex, if it wasn't met
abbrev pub with_unmet : WalkState → List Bool → ℕ → List Bool
with_unmet t marks v = if nat_eq (number_in t v) 0 then slice_set marks v true else marks

-- Of the vertices that a walk didn't meet, those are marked at which one of the cables below a bound ends.
pub record AreUnwalked (m : NetMap) (t : WalkState) (bound : ℕ) (marks : List Bool) : Type 0 where
  pub long : length marks ≡ length m.vertices
  pub some : (v : ℕ) → slice_index_or marks v false ≡ true → (number_in t v ≡ 0) × ((i : ℕ) × EndsAt m i v)
  pub all : (i v : ℕ) → i < bound → EndsAt m i v → number_in t v ≡ 0 → slice_index_or marks v false ≡ true

-- Of the vertices with a number below a bound, those are marked that hang by a cable; of those without a number, those
-- at which a cable ends.
pub record AreHanging (m : NetMap) (t : WalkState) (bound : ℕ) (marks : List Bool) : Type 0 where
  pub long : length marks ≡ length m.vertices
  pub unmet : (v : ℕ) → number_in t v ≡ 0 → slice_index_or marks v false ≡ true → (i : ℕ) × EndsAt m i v
  pub unmet_all : (i v : ℕ) → EndsAt m i v → number_in t v ≡ 0 → slice_index_or marks v false ≡ true
  pub roots : (v : ℕ) → number_in t v ≡ 1 → slice_index_or marks v false ≡ false
  pub some : (v : ℕ) → 2 ≤ number_in t v → number_in t v < bound + 2 → slice_index_or marks v false ≡ true
      → (k : ℕ) × Hangs m t k v
  pub all : (k v : ℕ) → number_in t v < bound + 2 → Hangs m t k v → slice_index_or marks v false ≡ true
