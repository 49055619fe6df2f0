-- A map without cables, and a map with one vertex more.
use Rattle.std.specs.Prelude.{ℕ, Bool, List, [], Option, Some, None}
use Rattle.map_defs.specs.declared.vertex.MapVertex.{MapVertex}
use Rattle.map_defs.specs.NetMap.{NetMap}
use Rattle.fabric_map.specs.Growing.{with_host, with_switch}

-- vertices with their marks, and no cable
abbrev pub bare_map : List MapVertex → List Bool → NetMap
bare_map vertices marks = record { vertices = vertices; cables = []; core = marks }

-- a map with one vertex more: a host of this address, which is of the core, or the next switch with its mark
abbrev pub with_vertex : NetMap → Option ℕ → Bool → NetMap
with_vertex m (Some h) mark = with_host m h
with_vertex m None mark = with_switch m mark
