-- What is kept of a map whose core is marked.
use Rattle.std.specs.Prelude.{◌≡◌, ◌<◌, ℕ, zero, suc, Bool, true, false, List, [], ◌∷◌, ◌++◌, map, nat_eq, slice_get}
use Rattle.std.specs.Prelude.{slice_index_or, if◌then◌else◌, Option, Some, None}
use Rattle.std.specs.List.{position}
use Rattle.map_defs.specs.declared.vertex.MapCable.{MapCable}
use Rattle.map_defs.specs.NetMap.{NetMap, host_of_vertex}
use Rattle.map_defs.specs.Quotient.{named}
use Rattle.fabric_map.specs.declared.fault.MapFault.{MapFault}
use Rattle.fabric_map.specs.Growing.{host_refusal, switch_refusal}

-- the marked numbers below a number, in their order
abbrev pub marked_below : List Bool → ℕ → List ℕ
marked_below marks zero = []
marked_below marks (suc v) = marked_below marks v ++ (if slice_index_or marks v false then v ∷ [] else [])

-- numbers that rise
abbrev pub IsRising : List ℕ → Type 0
IsRising kept = (v w u x : ℕ) → v < w → slice_get kept v ≡ Some u → slice_get kept w ≡ Some x → u < x

-- the number that a vertex has among those that are kept
abbrev pub number_in : List ℕ → ℕ → Option ℕ
number_in kept v = position (λ u. nat_eq u v) kept

-- a cable between two vertices that are kept, by their numbers
abbrev pub renumbered : MapCable → Option ℕ → Option ℕ → List MapCable
renumbered c None w = []
renumbered c (Some v) None = []
renumbered c (Some v) (Some w) = record { v = v; p = c.p; w = w; q = c.q } ∷ []

-- the cables between vertices that are kept, by their numbers
abbrev pub cables_in : List ℕ → List MapCable → List MapCable
cables_in kept [] = []
cables_in kept (c ∷ cs) = renumbered c (number_in kept c.v) (number_in kept c.w) ++ cables_in kept cs

-- the map of these vertices of another, without cables
abbrev pub bare : NetMap → List ℕ → NetMap
bare m kept = record {
  vertices = named 0 (map (host_of_vertex m) kept);
  cables = [];
  core = map (λ v. true) (named 0 (map (host_of_vertex m) kept));
}

-- the map of these vertices of another, with the cables between them
abbrev pub inside : NetMap → List ℕ → NetMap
inside m kept = record {
  vertices = named 0 (map (host_of_vertex m) kept);
  cables = cables_in kept m.cables;
  core = map (λ v. true) (named 0 (map (host_of_vertex m) kept));
}

-- why a map doesn't take a host of this address, or a switch
abbrev pub vertex_refusal : NetMap → Option ℕ → Option MapFault
vertex_refusal m (Some h) = host_refusal m h
vertex_refusal m None = switch_refusal m
