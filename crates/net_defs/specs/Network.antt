-- A fabric is a labelled port graph: hosts of one port, switches of 4, 8 or 16 ports, and cables that join two ports.
use Rattle.std.specs.Prelude.{◌≡◌, ◌≢◌, ℕ, ◌≤◌, Bool, true, false, ◌&&◌, ◌||◌, List, [], ◌∷◌, ◌++◌, map, length, nat_eq}
use Rattle.std.specs.Prelude.{nat_lt, slice_get, if◌then◌else◌, Option, Some, None}
use Rattle.std.specs.Option.{option_map_or}
use Rattle.std.specs.List.{AllByRecursion}
use Rattle.net_defs.specs.declared.vertex.Vertex.{Vertex}
use Rattle.net_defs.specs.declared.vertex.Vertex.TheVariants.{Host, Switch}
use Rattle.net_defs.specs.declared.vertex.End.{End}
use Rattle.net_defs.specs.declared.vertex.Cable.{Cable}

-- a switch by its name and the number of its ports
pub record NamedSwitch : Type 0 where
  pub name : List ℕ
  pub ports : ℕ

-- A fabric has the names of its hosts by address, and its switches and its cables by number.
pub record Network : Type 0 where
  pub hosts : List (List ℕ)
  pub switches : List NamedSwitch
  pub cables : List Cable

-- the ports of a vertex are those below this number, which is 0 where the fabric lacks the vertex
abbrev pub ports_of : Network → Vertex → ℕ
ports_of n (Host h) = if nat_lt h (length n.hosts) then 1 else 0
ports_of n (Switch s) = option_map_or (λ w. w.ports) (slice_get n.switches s) 0

-- the fabric has the vertex
abbrev pub has_vertex : Network → Vertex → Bool
has_vertex n (Host h) = nat_lt h (length n.hosts)
has_vertex n (Switch s) = nat_lt s (length n.switches)

-- the fabric has the vertex, and the vertex the port
abbrev pub has_port : Network → End → Bool
has_port n e = nat_lt e.p (ports_of n e.v)

-- the same host, or the same switch
abbrev pub same_vertex : Vertex → Vertex → Bool
same_vertex (Host g) (Host h) = nat_eq g h
same_vertex (Switch s) (Switch t) = nat_eq s t
same_vertex _ _ = false

-- the same port of the same vertex
abbrev pub same_end : End → End → Bool
same_end d e = same_vertex d.v e.v && nat_eq d.p e.p

-- the end at the other side of the first of these cables that ends there
abbrev pub far_end : List Cable → End → Option End
far_end [] e = None
far_end (c ∷ cs) e = if same_end c.a e then Some c.b else if same_end c.b e then Some c.a else far_end cs e

-- the port at the other end of the cable at a port
abbrev pub far : Network → End → Option End
far n e = far_end n.cables e

-- no element stands twice
abbrev pub Apart : {X : Type 0} → List X → Type 0
Apart [] = Unit {0}
Apart (x ∷ xs) = AllByRecursion (λ y. x ≢ y) xs × Apart xs

-- hosts and switches share one set of names
abbrev pub names : Network → List (List ℕ)
names n = n.hosts ++ map (λ s. s.name) n.switches

-- both ends of each cable
abbrev pub ends_of : List Cable → List End
ends_of [] = []
ends_of (c ∷ cs) = c.a ∷ c.b ∷ ends_of cs

-- a switch has 4, 8 or 16 ports
abbrev pub is_port_count : ℕ → Bool
is_port_count p = nat_eq p 4 || nat_eq p 8 || nat_eq p 16

-- A network is a fabric where it has at most 128 hosts and 64 switches, no name stands twice, each switch has
-- 4, 8 or 16 ports, and the ends of its cables are ports that exist, no port twice.
pub record IsFabric (n : Network) : Type 0 where
  pub few_hosts : length n.hosts ≤ 128
  pub few_switches : length n.switches ≤ 64
  pub names_apart : Apart (names n)
  pub port_counts : AllByRecursion (λ s. is_port_count s.ports ≡ true) n.switches
  pub cabled_ports : AllByRecursion (λ e. has_port n e ≡ true) (ends_of n.cables)
  pub ports_once : Apart (ends_of n.cables)

-- the fabric without vertices
abbrev pub empty_network : Network
empty_network = record { hosts = []; switches = []; cables = [] }
