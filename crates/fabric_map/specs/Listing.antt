-- Vertices with their marks, and an index of the hosts by address.
use Rattle.std.specs.Prelude.{◌≡◌, ℕ, Bool, List, length, slice_index_or, position, Option, None}
use Rattle.map_defs.specs.declared.vertex.MapVertex.{MapVertex}
use Rattle.map_defs.specs.NetMap.{switches_of}
use Rattle.map_defs.specs.Routing.{is_host_named}

-- The vertices by number, and for each of them whether it is of the core.
pub record Marked : Type 0 where
  pub vertices : List MapVertex
  pub core : List Bool

-- The count is that of the switches, and the index has the vertex of each host.
pub record IsIndexOf (vertices : List MapVertex) (switches : ℕ) (by_address : List (Option ℕ)) : Type 0 where
  pub counted : switches ≡ length (switches_of vertices)
  pub found : (h : ℕ) → slice_index_or by_address h None ≡ position (is_host_named h) vertices
