-- How a fabric grows by a host, a switch or a cable, what refuses it, and which vertex has a name.
use Rattle.std.specs.Prelude.{ℕ, Bool, ◌||◌, not, List, [], ◌∷◌, ◌++◌, length, nat_le, slice_get, position}
use Rattle.std.specs.Prelude.{if◌then◌else◌, Option, Some, None, option_map, is_some, bytes_eq}
use Rattle.std.specs.Option.{option_map_or}
use Rattle.std.specs.List.{list_any}
use Rattle.net_defs.specs.declared.vertex.Vertex.{Vertex}
use Rattle.net_defs.specs.declared.vertex.Vertex.TheVariants.{Host, Switch}
use Rattle.net_defs.specs.declared.vertex.End.{End}
use Rattle.net_defs.specs.declared.fault.GraphFault.{GraphFault}
use Rattle.net_defs.specs.declared.fault.GraphFault.TheVariants.{PortRange, NameTaken, Full, NoVertex, PortUsed}
use Rattle.net_defs.specs.Network.{Network, names, has_vertex, has_port, is_port_count, same_end, far}

-- a host or a switch has the name
abbrev pub taken : Network → List ℕ → Bool
taken n name = list_any (bytes_eq name) (names n)

-- the one of two that is there, the first before the second
abbrev pub first_of_two : {X : Type 0} → Option X → Option X → Option X
first_of_two None y = y
first_of_two (Some x) y = Some x

-- the vertex of a name
abbrev pub vertex_named : Network → List ℕ → Option Vertex
vertex_named n name =
    first_of_two
    (option_map Host (position (bytes_eq name) n.hosts))
    (option_map Switch (position (λ s. bytes_eq name s.name) n.switches))

-- the name of a vertex
abbrev pub name_of : Network → Vertex → List ℕ
name_of n (Host h) = option_map_or (λ name. name) (slice_get n.hosts h) []
name_of n (Switch s) = option_map_or (λ w. w.name) (slice_get n.switches s) []

-- the fabric with one host more
abbrev pub with_host : Network → List ℕ → Network
with_host n name = record n { hosts = n.hosts ++ name ∷ [] }

-- the fabric with one switch more
abbrev pub with_switch : Network → List ℕ → ℕ → Network
with_switch n name ports = record n { switches = n.switches ++ record { name = name; ports = ports } ∷ [] }

-- the fabric with one cable more
abbrev pub with_cable : Network → End → End → Network
with_cable n a b = record n { cables = n.cables ++ record { a = a; b = b } ∷ [] }

-- why a fabric doesn't take a host: first its name, then their number
abbrev pub host_refusal : Network → List ℕ → Option GraphFault
host_refusal n name = if taken n name then Some NameTaken else if nat_le 128 (length n.hosts) then Some Full else None

-- why it doesn't take a switch
abbrev pub switch_refusal : Network → List ℕ → ℕ → Option GraphFault
switch_refusal n name ports =
    if not (is_port_count ports) then Some PortRange
    else if taken n name then Some NameTaken
    else if nat_le 64 (length n.switches) then Some Full
    else None

-- a cable from a to b would end where one ends already, or at one port with both ends
abbrev pub is_used : Network → End → End → Bool
is_used n a b = is_some (far n a) || is_some (far n b) || same_end a b

-- why it doesn't take a cable
abbrev pub cable_refusal : Network → End → End → Option GraphFault
cable_refusal n a b =
    if not (has_vertex n a.v) then Some NoVertex
    else if not (has_vertex n b.v) then Some NoVertex
    else if not (has_port n a) then Some PortRange
    else if not (has_port n b) then Some PortRange
    else if is_used n a b then Some PortUsed
    else None
