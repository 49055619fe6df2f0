-- The channels of a map that have ranks, by the places of their ports.
use Rattle.std.specs.Prelude.{◌≡◌, ◌<◌, ℕ, List, Option, Some, None, slice_index_or}
use Rattle.map_defs.specs.declared.rank.RankEntry.{RankEntry}
use Rattle.map_defs.specs.NetMap.{NetMap, MapPort, map_far, is_switch_vertex}
use Rattle.map_defs.specs.Ranks.{rank_of}
use Rattle.rank_cert.specs.declared.crossings.Crossing.{Crossing}
use Rattle.rank_cert.specs.Listing.{port_at}

-- the port that a channel enters
abbrev pub far_of : Crossing → MapPort
far_of c = record { v = c.v; p = c.p }

-- The channel that leaves by a port: where it leads, its rank, and whether it enters a switch.
pub record IsCrossing (m : NetMap) (ks : List RankEntry) (d : MapPort) (c : Crossing) : Type 0 where
  pub leads : map_far m d ≡ Some (far_of c)
  pub ranked : rank_of ks d ≡ Some c.rank
  pub onward : c.onward ≡ is_switch_vertex m c.v

-- A table has channels alone, each at the place of the port that it leaves.
pub record AreCrossings (m : NetMap) (ks : List RankEntry) (table : List (Option Crossing)) : Type 0 where
  pub each : (k : ℕ) (c : Crossing) → slice_index_or table k None ≡ Some c → IsCrossing m ks (port_at k) c

-- so have its places below one
abbrev pub AreBelow : ℕ → NetMap → List RankEntry → List (Option Crossing) → Type 0
AreBelow places m ks table =
    (k : ℕ) (c : Crossing) → k < places → slice_index_or table k None ≡ Some c → IsCrossing m ks (port_at k) c
