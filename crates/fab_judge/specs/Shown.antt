-- The last map that a report shows.
use Rattle.std.specs.Prelude.{ℕ, Bool, List, [], ◌∷◌, ◌++◌, if◌then◌else◌, Option, Some, None, option_map}
use Rattle.map_defs.specs.declared.vertex.MapVertex.{MapVertex}
use Rattle.map_defs.specs.declared.vertex.MapVertex.TheVariants.{Switch}
use Rattle.map_defs.specs.NetMap.{NetMap}

-- The last map that has lines, and whether its word was `complete`.
pub record Shown : Type 0 where
  pub map : NetMap
  pub complete : Bool

-- the map of what is kept
abbrev pub map_in : Option Shown → Option NetMap
map_in shown = option_map (λ s. s.map) shown

-- the same, where it is complete
abbrev pub complete_in : Option Shown → Option NetMap
complete_in None = None
complete_in (Some s) = if s.complete then Some s.map else None

-- the places of switches, with that of a vertex where it is one
abbrev pub with_place : Option MapVertex → ℕ → List ℕ → List ℕ
with_place (Some (Switch s)) v places = places ++ v ∷ []
with_place vertex v places = places
