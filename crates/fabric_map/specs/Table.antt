-- A table of far ends: 31 places for each vertex, one for each port from -15 to 15.
use Rattle.std.specs.Prelude.{◌≡◌, ℕ, ◌+◌, ◌*◌, ℤ, pos, ◌+ℤ◌, ◌-ℤ◌, nat_abs, List, slice_index_or, Option, None}
use Rattle.std.specs.Prelude.{option_map}
use Rattle.std.specs.List.{AllByRecursion}
use Rattle.net_defs.specs.Turn.{IsTurn}
use Rattle.map_defs.specs.declared.vertex.MapCable.{MapCable}
use Rattle.map_defs.specs.NetMap.{MapPort, far_port, map_ends}
use Rattle.port_align.specs.declared.end.NodePort.{NodePort}

-- the place of a port among those of its vertex
abbrev pub place_in : ℤ → ℕ
place_in p = nat_abs (p +ℤ pos 15)

-- the place of a port
abbrev pub place_of_port : MapPort → ℕ
place_of_port d = 31 * d.v + place_in d.p

-- the port at a place of a vertex
abbrev pub port_at : ℕ → ℕ → MapPort
port_at v i = record { v = v; p = pos i -ℤ pos 15 }

-- a port as a pair of its vertex and its number
abbrev pub pair_of : MapPort → ℕ × ℤ
pair_of d = (d.v, d.p)

-- what a port leads to, as a pair
abbrev pub far_pair : Option MapPort → Option (ℕ × ℤ)
far_pair e = option_map pair_of e

-- a port as the table keeps it
abbrev pub end_of : MapPort → NodePort
end_of d = record { node = d.v; port = d.p }

-- a far end of the table as a pair
abbrev pub pair_of_end : NodePort → ℕ × ℤ
pair_of_end e = (e.node, e.port)

-- what a port leads to, as the table keeps it
abbrev pub far_end : Option MapPort → Option NodePort
far_end e = option_map end_of e

-- what the table has for a port: nothing past its length
abbrev pub entry : List (Option NodePort) → MapPort → Option NodePort
entry table d = slice_index_or table (place_of_port d) None

-- The table has the far end of each port, and no cable ends elsewhere.
pub record IsTableOf (cables : List MapCable) (table : List (Option NodePort)) : Type 0 where
  pub turns : AllByRecursion (λ d. IsTurn d.p) (map_ends cables)
  pub far_ends : (d : MapPort) → IsTurn d.p → entry table d ≡ far_end (far_port cables d)
