-- What the tables of a wiring hold.
use Rattle.std.specs.Prelude.{◌≡◌, ℕ, ◌+◌, ◌*◌, slice_set, true, List, [], ◌∷◌, length, map, slice_index_or}
use Rattle.std.specs.Prelude.{if◌then◌else◌}
use Rattle.std.specs.Prelude.{Option, Some, None}
use Rattle.net_defs.specs.declared.vertex.Vertex.{Vertex}
use Rattle.net_defs.specs.declared.vertex.Vertex.TheVariants.{Host, Switch}
use Rattle.net_defs.specs.declared.vertex.End.{End}
use Rattle.net_defs.specs.declared.vertex.Cable.{Cable}
use Rattle.net_defs.specs.Network.{Network}
use Rattle.net_defs.specs.Route.{channel_out}
use Rattle.world_defs.specs.declared.wire.Wire.{Wire}
use Rattle.world_defs.specs.History.{CableHistory, IsHistory, is_in_place}
use Rattle.world_defs.specs.Crossed.{channel_by}
use Rattle.port_graph.specs.Table.{is_possible, place_of_end}
use Rattle.fabric_wiring.specs.Hops.{IsHopTable, hops_from}
use Rattle.fabric_wiring.specs.declared.wiring.Entry.{Entry}

-- the history of the cables between these hosts and switches
abbrev pub history_of : Network → List Wire → ℕ → ℕ → CableHistory
history_of n wires changes accepted =
    record { hosts = n.hosts; switches = n.switches; wires = wires; changes = changes; accepted = accepted }

-- the place of an end that some fabric may have
abbrev pub place_if_possible : End → Option ℕ
place_if_possible e = if is_possible e then Some (place_of_end e) else None

-- The table has for each end that a fabric may have the channel that leaves by it, the cables before these being k.
pub record IsOutTable (k : ℕ) (cables : List Cable) (out : List (Option ℕ)) : Type 0 where
  pub size : length out ≡ 1152
  pub channels : (e : End) → is_possible e ≡ true → slice_index_or out (place_of_end e) None ≡ channel_out k cables e

-- The same of cables that come and go: it has the channel that leaves over a cable in place.
pub record IsPortTable (wires : List Wire) (out : List (Option ℕ)) : Type 0 where
  pub size : length out ≡ 1152
  pub channels : (e : End) → is_possible e ≡ true
      → slice_index_or out (place_of_end e) None ≡ channel_by is_in_place 0 wires e

-- the table with these two channels at the ends of a cable
abbrev pub with_ends : Cable → Option ℕ → Option ℕ → List (Option ℕ) → List (Option ℕ)
with_ends cable on back out = slice_set (slice_set out (place_of_end cable.b) back) (place_of_end cable.a) on

-- the table with the channels of a cable of this number
abbrev pub with_cable : ℕ → Cable → List (Option ℕ) → List (Option ℕ)
with_cable k cable out = with_ends cable (Some (2 * k)) (Some (2 * k + 1)) out

-- the ports of a vertex by those of the switches: a host has one
abbrev pub count_at : List ℕ → Vertex → ℕ
count_at ports (Host h) = 1
count_at ports (Switch s) = slice_index_or ports s 0

-- the entry by an end, the switches having so many ports
abbrev pub entry_by : List ℕ → End → Entry
entry_by ports e = record { end = e; ports = count_at ports e.v; hops = hops_from (length ports) e.v e.p }

-- the entries of the two channels of each cable: one enters by its second end, the one back by its first
abbrev pub entries_of : List ℕ → List Wire → List Entry
entries_of ports [] = []
entries_of ports (w ∷ ws) = entry_by ports w.cable.b ∷ entry_by ports w.cable.a ∷ entries_of ports ws

-- The tables are those of a history.
pub record IsWiring (h : CableHistory) (hosts : ℕ) (ports : List ℕ) (entries : List Entry)
    (out hops : List (Option ℕ)) : Type 0 where
  pub history : IsHistory h
  pub same_hosts : hosts ≡ length h.hosts
  pub same_ports : ports ≡ map (λ s. s.ports) h.switches
  pub entered : entries ≡ entries_of ports h.wires
  pub leaving : IsPortTable h.wires out
  pub hopping : IsHopTable out (length h.switches) hops
