-- A map without cables, whose vertices are named for nodes.
use Rattle.std.specs.Prelude.{◌≡◌, ℕ, ℤ, true, List, [], ◌∷◌, map, slice_get, Option, Some, None}
use Rattle.net_defs.specs.declared.place.Answer.{Answer}
use Rattle.net_defs.specs.declared.place.Answer.TheVariants.{Host, Switch, Nothing}
use Rattle.journal_defs.specs.declared.entry.Entry.{Entry}
use Rattle.journal_defs.specs.Tree.{host_of}
use Rattle.map_defs.specs.declared.vertex.MapVertex.{MapVertex}
use Rattle.map_defs.specs.NetMap.{NetMap}
use Rattle.map_defs.specs.Quotient.{named}
use Rattle.fabric_map.specs.declared.fault.MapFault.{MapFault}
use Rattle.fabric_map.specs.Growing.{with_host, with_switch, host_refusal, switch_refusal}
use Rattle.replicate_merge.specs.Nodes.{nodes_of}
use Rattle.replicate_merge.specs.Ways.{node_at}

-- all core, and no cable
abbrev pub bare_map : List MapVertex → NetMap
bare_map vertices = record { vertices = vertices; cables = []; core = map (λ v. true) vertices }

-- a map with one vertex more: a host of this address, or the next switch
abbrev pub with_vertex : NetMap → Option ℕ → NetMap
with_vertex m (Some h) = with_host m h
with_vertex m None = with_switch m true

-- why a map doesn't take a host of this address, or a switch
abbrev pub vertex_refusal : NetMap → Option ℕ → Option MapFault
vertex_refusal m (Some h) = host_refusal m h
vertex_refusal m None = switch_refusal m

-- no address stands twice among these
abbrev pub HaveOwnAddresses : List (Option ℕ) → Type 0
HaveOwnAddresses os = (v w h : ℕ) → slice_get os v ≡ Some (Some h) → slice_get os w ≡ Some (Some h) → v ≡ w

-- the addresses of nodes by their numbers: none of a switch
abbrev pub addresses_of : ℕ → List Entry → List (List ℤ) → List ℕ → List (Option ℕ)
addresses_of host j walks numbers = map (λ n. host_of host j (node_at (nodes_of walks) n)) numbers

-- the address of the node that an answer found, if it found one: none of a switch
abbrev pub found_by : Answer → List (Option ℕ)
found_by (Host h) = Some h ∷ []
found_by Switch = None ∷ []
found_by Nothing = []

-- the vertices that are named for these nodes
abbrev pub vertices_of : ℕ → List Entry → List (List ℤ) → List ℕ → List MapVertex
vertices_of host j walks numbers = named 0 (addresses_of host j walks numbers)
