-- Maps that are the same up to offset are one when renumbered.
use Rattle.std.specs.Prelude.{◌≡◌, ℕ, Some}
use Rattle.map_defs.specs.NetMap.{NetMap, IsMap, host_of_vertex}
use Rattle.map_defs.specs.Sameness.{IsSame, graph_of_map}
use Rattle.map_renumber.specs.Canon.{IsCanon}

-- Two maps that are the same up to offset, with the same host as vertex 0, have the same vertices and cables when
-- they are renumbered.
abbrev pub CanonIsOne : Type 0
CanonIsOne = (m n k l : NetMap) (h : ℕ) → IsMap m → IsMap n → host_of_vertex m 0 ≡ Some h
    → host_of_vertex n 0 ≡ Some h → IsSame (graph_of_map m) (graph_of_map n) → IsCanon m k → IsCanon n l
    → (k.vertices ≡ l.vertices) × (k.cables ≡ l.cables)

-- A renumbered map has the same vertices and cables when it is renumbered again.
abbrev pub CanonStays : Type 0
CanonStays = (m k l : NetMap) (h : ℕ) → IsMap m → IsMap k → host_of_vertex m 0 ≡ Some h
    → IsSame (graph_of_map m) (graph_of_map k) → IsCanon m k → IsCanon k l
    → (k.vertices ≡ l.vertices) × (k.cables ≡ l.cables)
