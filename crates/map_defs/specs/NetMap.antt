-- A map has the vertices that a mapper found, and cables between ports that count from each switch's entry port.
use Rattle.std.specs.Prelude.{◌≡◌, ℕ, ◌<◌, ℤ, pos, ◌-ℤ◌, Bool, true, false, ◌&&◌, ◌||◌, List, [], ◌∷◌, length, nat_eq}
use Rattle.std.specs.Prelude.{nat_lt, int_lt, slice_get, if◌then◌else◌, Option, Some, None}
use Rattle.std.specs.Ordering.{int_eq}
use Rattle.std.specs.List.{AllByRecursion}
use Rattle.net_defs.specs.Network.{Apart}
use Rattle.net_defs.specs.Turn.{IsTurn}
use Rattle.journal_defs.specs.Counting.{numbers_below}
use Rattle.journal_defs.specs.Edges.{Steps}
use Rattle.map_defs.specs.declared.vertex.MapVertex.{MapVertex}
use Rattle.map_defs.specs.declared.vertex.MapVertex.TheVariants.{Host, Switch}
use Rattle.map_defs.specs.declared.vertex.MapCable.{MapCable}

-- A map has vertices and cables by number, and says of each vertex whether it is of the core.
pub record NetMap : Type 0 where
  pub vertices : List MapVertex
  pub cables : List MapCable
  pub core : List Bool

-- a port of a vertex
pub record MapPort : Type 0 where
  pub v : ℕ
  pub p : ℤ

-- the end of a cable that is named first
abbrev pub first_end : MapCable → MapPort
first_end c = record { v = c.v; p = c.p }

-- the end of a cable that is named second
abbrev pub second_end : MapCable → MapPort
second_end c = record { v = c.w; p = c.q }

-- the same port of the same vertex
abbrev pub same_port : MapPort → MapPort → Bool
same_port d e = nat_eq d.v e.v && int_eq d.p e.p

-- ports in their order: by vertex, then by number
abbrev pub port_below : MapPort → MapPort → Bool
port_below d e = nat_lt d.v e.v || (nat_eq d.v e.v && int_lt d.p e.p)

-- the port at the other side of the first of these cables that ends there
abbrev pub far_port : List MapCable → MapPort → Option MapPort
far_port [] d = None
far_port (c ∷ cs) d = if same_port (first_end c) d then Some (second_end c)
    else if same_port (second_end c) d then Some (first_end c) else far_port cs d

-- the port at the other end of the cable at a port
abbrev pub map_far : NetMap → MapPort → Option MapPort
map_far m d = far_port m.cables d

-- a cable of the map joins two ports
pub data IsCabled (m : NetMap) : MapPort → MapPort → Type 0 where
  forth : (k : ℕ) {c : MapCable} → slice_get m.cables k ≡ Some c → IsCabled m (first_end c) (second_end c)
  back : (k : ℕ) {c : MapCable} → slice_get m.cables k ≡ Some c → IsCabled m (second_end c) (first_end c)

-- both ends of each cable
abbrev pub map_ends : List MapCable → List MapPort
map_ends [] = []
map_ends (c ∷ cs) = first_end c ∷ second_end c ∷ map_ends cs

-- the two vertices of each cable
abbrev pub map_edges : List MapCable → List (ℕ × ℕ)
map_edges [] = []
map_edges (c ∷ cs) = (c.v, c.w) ∷ map_edges cs

-- a path of cables leads from vertex 0 to a vertex
pub record IsReached (m : NetMap) (v : ℕ) : Type 0 where
  pub cables : ℕ
  pub path : Steps (map_edges m.cables) 0 cables v

-- every vertex is joined to vertex 0
abbrev pub IsConnected : NetMap → Type 0
IsConnected m = (v : ℕ) → v < length m.vertices → IsReached m v

-- the address of a vertex that is a host
abbrev pub host_at : Option MapVertex → Option ℕ
host_at (Some (Host h)) = Some h
host_at _ = None

-- the address of a vertex that is a host
abbrev pub host_of_vertex : NetMap → ℕ → Option ℕ
host_of_vertex m v = host_at (slice_get m.vertices v)

-- a vertex that is a switch
abbrev pub switch_at : Option MapVertex → Bool
switch_at (Some (Switch s)) = true
switch_at _ = false

-- the vertex of this number is a switch
abbrev pub is_switch_vertex : NetMap → ℕ → Bool
is_switch_vertex m v = switch_at (slice_get m.vertices v)

-- the addresses of the hosts, and the numbers of the switches, in the order of the vertices
abbrev pub hosts_of : List MapVertex → List ℕ
hosts_of [] = []
hosts_of (Host h ∷ vs) = h ∷ hosts_of vs
hosts_of (Switch s ∷ vs) = hosts_of vs

-- the numbers of the switches, in the order of the vertices
abbrev pub switches_of : List MapVertex → List ℕ
switches_of [] = []
switches_of (Host h ∷ vs) = switches_of vs
switches_of (Switch s ∷ vs) = s ∷ switches_of vs

-- two cabled ports of one vertex are at most 15 apart
abbrev pub IsNearPort : MapPort → MapPort → Type 0
IsNearPort d e = d.v ≡ e.v → IsTurn (d.p -ℤ e.p)

-- each two ports of one vertex among these are at most 15 apart
abbrev pub AreNearPorts : List MapPort → Type 0
AreNearPorts [] = Unit {0}
AreNearPorts (d ∷ ds) = AllByRecursion (IsNearPort d) ds × AreNearPorts ds

-- The rules that every map keeps.
pub record IsMap (m : NetMap) : Type 0 where
  pub hosts_once : Apart (hosts_of m.vertices)
  pub switches_numbered : switches_of m.vertices ≡ numbers_below (length (switches_of m.vertices))
  pub one_mark_each : length m.core ≡ length m.vertices
  pub hosts_marked : (v h : ℕ) → host_of_vertex m v ≡ Some h → slice_get m.core v ≡ Some true
  pub cabled_vertices : AllByRecursion (λ d. d.v < length m.vertices) (map_ends m.cables)
  pub ports_once : Apart (map_ends m.cables)
  pub host_ports : AllByRecursion (λ d. (h : ℕ) → host_of_vertex m d.v ≡ Some h → d.p ≡ pos 0) (map_ends m.cables)
  pub ports_in_range : AllByRecursion (λ d. IsTurn d.p) (map_ends m.cables)
  pub ports_near : AreNearPorts (map_ends m.cables)

-- Cables as a report prints them: each at its first end by vertex and port, in the order of these ends.
abbrev pub AreInOrder : List MapCable → Type 0
AreInOrder [] = Unit {0}
AreInOrder (c ∷ cs) = (port_below (first_end c) (second_end c) ≡ true)
    × AllByRecursion (λ d. port_below (first_end c) (first_end d) ≡ true) cs × AreInOrder cs
