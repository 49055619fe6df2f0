-- The cables of a map in the order of a report.
use Rattle.std.specs.Prelude.{ℕ, zero, suc, ◌*◌, ◌/◌, ◌%◌, pos, ◌-ℤ◌, List, [], ◌++◌, length, option_to_list}
use Rattle.std.specs.Prelude.{if◌then◌else◌, Option, Some, None}
use Rattle.map_defs.specs.declared.vertex.MapCable.{MapCable}
use Rattle.map_defs.specs.NetMap.{NetMap, MapPort, map_far, port_below}

-- the ports from -15 to 15 of all vertices, one after another
abbrev pub port_of_place : ℕ → MapPort
port_of_place k = record { v = k / 31; p = pos (k % 31) -ℤ pos 15 }

-- a cable from a port to a greater one
abbrev pub rising_cable : MapPort → Option MapPort → Option MapCable
rising_cable d None = None
rising_cable d (Some e) = if port_below d e then Some (record { v = d.v; p = d.p; w = e.v; q = e.p }) else None

-- the cable whose first end is this port
abbrev pub cable_from : NetMap → MapPort → Option MapCable
cable_from m d = rising_cable d (map_far m d)

-- the cables whose first end is at one of the first places
abbrev pub cables_below : NetMap → ℕ → List MapCable
cables_below m zero = []
cables_below m (suc k) = cables_below m k ++ option_to_list (cable_from m (port_of_place k))

-- the map with its cables in order
abbrev pub in_order : NetMap → NetMap
in_order m = record { vertices = m.vertices; cables = cables_below m (31 * length m.vertices); core = m.core }
