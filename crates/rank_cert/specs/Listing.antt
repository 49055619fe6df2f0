-- Entries of ranks in the order of their ports, and those of a map's channels, one place after the other.
use Rattle.std.specs.Prelude.{ℕ, ◌+◌, ◌-◌, ◌/◌, ◌%◌, pos, ◌-ℤ◌, slice_index, length, Bool}
use Rattle.std.specs.Prelude.{true, ◌&&◌, List, [], ◌∷◌, is_some, if◌then◌else◌, Option, Some, None}
use Rattle.map_defs.specs.declared.rank.RankEntry.{RankEntry}
use Rattle.map_defs.specs.NetMap.{NetMap, MapPort, port_below, same_port, map_far}
use Rattle.map_defs.specs.Orientation.{falls}
use Rattle.map_defs.specs.Ranks.{rank_by}

-- the port of an entry
abbrev pub port_of : RankEntry → MapPort
port_of k = record { v = k.v; p = k.p }

-- a port comes after the last one, where there was one
abbrev pub comes_after : Option MapPort → MapPort → Bool
comes_after None d = true
comes_after (Some c) d = port_below c d

-- the ports of entries rise, from after a port on
abbrev pub rise_after : Option MapPort → List RankEntry → Bool
rise_after before [] = true
rise_after before (k ∷ ks) = comes_after before (port_of k) && rise_after (Some (port_of k)) ks

-- the port at a place, 31 of them a vertex
abbrev pub port_at : ℕ → MapPort
port_at k = record { v = k / 31; p = pos (k % 31) -ℤ pos 15 }

-- the entry of a channel, with its rank by an order
abbrev pub entry_of : NetMap → List ℕ → MapPort → RankEntry
entry_of m order d = record { v = d.v; p = d.p; rank = rank_by m order d }

-- the entry of the channel that leaves by the port at a place
abbrev pub entry_at : NetMap → List ℕ → ℕ → Option RankEntry
entry_at m order k = if is_some (map_far m (port_at k)) then Some (entry_of m order (port_at k)) else None

-- the rank of an entry, where it is the port's
abbrev pub rank_at : Option RankEntry → MapPort → Option ℕ
rank_at None d = None
rank_at (Some k) d = if same_port (port_of k) d then Some k.rank else None

-- the rank of a channel from one vertex to another
abbrev pub rank_between : List ℕ → ℕ → ℕ → ℕ
rank_between order v w = if falls order v w then length order - 1 - slice_index order v
    else length order + slice_index order v
