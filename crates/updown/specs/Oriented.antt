-- An orientation as a list of places and a table of which ports are up.
use Rattle.std.specs.Prelude.{ℕ, ◌*◌, ◌/◌, ◌%◌, pos, ◌-ℤ◌, Bool, false, List, map, length, slice_index_or}
use Rattle.std.specs.Prelude.{if◌then◌else◌}
use Rattle.net_defs.specs.Turn.{is_turn}
use Rattle.journal_defs.specs.Counting.{numbers_below}
use Rattle.map_defs.specs.NetMap.{NetMap, MapPort}
use Rattle.map_defs.specs.Orientation.{order_of, is_up}
use Rattle.fabric_map.specs.Table.{place_of_port}

-- The place of each vertex, and for each port, 31 a vertex, whether the channel that leaves by it is up.
pub record Oriented : Type 0 where
  pub order : List ℕ
  pub ups : List Bool

-- the port at a place of the table
abbrev pub port_at : ℕ → MapPort
port_at k = record { v = k / 31; p = pos (k % 31) -ℤ pos 15 }

-- the orientation of a map
abbrev pub orientation_of : NetMap → Oriented
orientation_of m = record {
  order = order_of m;
  ups = map (λ k. is_up m (order_of m) (port_at k)) (numbers_below (31 * length m.vertices));
}

-- what an orientation says of a port
abbrev pub up_in : Oriented → MapPort → Bool
up_in o d = if is_turn d.p then slice_index_or o.ups (place_of_port d) false else false
