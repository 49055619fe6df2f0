-- When two networks are the same, the ports of each switch counted from elsewhere.
use Rattle.std.specs.Prelude.{◌≡◌, ◌↔◌, ℕ, ◌<◌, ℤ, pos, ◌+ℤ◌, length, Option, Some, None}
use Rattle.net_defs.specs.declared.vertex.Vertex.{Vertex}
use Rattle.net_defs.specs.declared.vertex.Vertex.TheVariants.{Host, Switch}
use Rattle.net_defs.specs.Network.{Network, far}
use Rattle.journal_defs.specs.Part.{IsInPart}
use Rattle.map_defs.specs.NetMap.{NetMap, IsCabled, host_of_vertex}

-- A port graph says which vertices are in it, which of them are hosts of which address, and which ports a cable joins.
pub record PortGraph (V : Type 0) : Type 1 where
  pub IsIn : V → Type 0
  pub address : V → Option ℕ
  pub Joins : V → ℤ → V → ℤ → Type 0

-- Two port graphs are the same up to offset: their vertices are paired one to one, hosts with hosts of the same
-- address and switches with switches, and port p of a vertex stands for port p + offset of its image. A host's offset
-- is 0.
pub record IsSame {V W : Type 0} (g : PortGraph V) (h : PortGraph W) : Type 0 where
  pub image : V → W
  pub origin : W → V
  pub offset : V → ℤ
  pub image_in : (v : V) → g.IsIn v → h.IsIn (image v)
  pub origin_in : (w : W) → h.IsIn w → g.IsIn (origin w)
  pub origin_image : (v : V) → g.IsIn v → origin (image v) ≡ v
  pub image_origin : (w : W) → h.IsIn w → image (origin w) ≡ w
  pub addresses : (v : V) → g.IsIn v → h.address (image v) ≡ g.address v
  pub host_offsets : (v : V) (a : ℕ) → g.IsIn v → g.address v ≡ Some a → offset v ≡ pos 0
  pub cables : (v w : V) (p q : ℤ) → g.IsIn v → g.IsIn w
      → g.Joins v p w q ↔ h.Joins (image v) (p +ℤ offset v) (image w) (q +ℤ offset w)

-- a map as a port graph
abbrev pub graph_of_map : NetMap → PortGraph ℕ
graph_of_map m = record {
  IsIn = λ v. v < length m.vertices;
  address = host_of_vertex m;
  Joins = λ v p w q. IsCabled m (record { v = v; p = p }) (record { v = w; p = q });
}

-- the address of a vertex that is a host
abbrev pub address_of : Vertex → Option ℕ
address_of (Host h) = Some h
address_of (Switch s) = None

-- a cable of a fabric joins two ports, whose numbers are never negative
abbrev pub Joined : Network → Vertex → ℤ → Vertex → ℤ → Type 0
Joined n v (pos p) w (pos q) = far n (record { v = v; p = p }) ≡ Some (record { v = w; p = q })
Joined n v _ w _ = ⊥

-- a mapper's part of a fabric as a port graph
abbrev pub graph_of_part : Network → ℕ → PortGraph Vertex
graph_of_part n host = record { IsIn = IsInPart n host; address = address_of; Joins = Joined n }

-- the map is right: it is the same graph as the mapper's part, up to an offset at each switch
abbrev pub IsMapOfPart : Network → ℕ → NetMap → Type 0
IsMapOfPart n host m = IsSame (graph_of_map m) (graph_of_part n host)
