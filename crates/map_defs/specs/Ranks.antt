-- Ranks of the channels of a map, which rule out a cycle of dependencies.
use Rattle.std.specs.Prelude.{◌≡◌, ℕ, ◌+◌, ◌-◌, ◌<◌, pos, true, List, [], ◌∷◌, ◌++◌, map, length, is_some, slice_index}
use Rattle.std.specs.Prelude.{if◌then◌else◌, Option, Some, None}
use Rattle.std.specs.List.{AllByRecursion, filter}
use Rattle.journal_defs.specs.Counting.{numbers_below}
use Rattle.journal_defs.specs.Walks.{falling_turns}
use Rattle.net_defs.specs.declared.route.Route.{Route}
use Rattle.net_defs.specs.Dependencies.{IsBefore}
use Rattle.map_defs.specs.declared.rank.RankEntry.{RankEntry}
use Rattle.map_defs.specs.NetMap.{NetMap, MapPort, map_far, same_port}
use Rattle.map_defs.specs.Orientation.{is_up}
use Rattle.map_defs.specs.Routing.{channels_on, port_of_host}

-- the channels of each route on a map
abbrev pub channels_of_routes : NetMap → List Route → List (List MapPort)
channels_of_routes m [] = []
channels_of_routes m (r ∷ rs) = channels_on m (port_of_host m r.from) r.walk ∷ channels_of_routes m rs

-- the rank of a channel is that of its first entry
abbrev pub rank_of : List RankEntry → MapPort → Option ℕ
rank_of [] d = None
rank_of (k ∷ ks) d = if same_port (record { v = k.v; p = k.p }) d then Some k.rank else rank_of ks d

-- two channels have ranks, and the second is greater
pub record Rises (ranks : List RankEntry) (c d : MapPort) : Type 0 where
  pub low : ℕ
  pub high : ℕ
  pub is_low : rank_of ranks c ≡ Some low
  pub is_high : rank_of ranks d ≡ Some high
  pub rises : low < high

-- Ranks are a certificate of routes: each channel in use has a rank, and ranks rise along every route.
pub record IsCertificate (m : NetMap) (routes : List Route) (ranks : List RankEntry) : Type 0 where
  pub ranked : AllByRecursion (λ cs. AllByRecursion (λ c. is_some (rank_of ranks c) ≡ true) cs)
      (channels_of_routes m routes)
  pub rising : (c d : MapPort) → IsBefore (channels_of_routes m routes) c d → Rises ranks c d

-- the ports that a vertex may have, from -15 to 15
abbrev pub ports_at : ℕ → List MapPort
ports_at v = map (λ p. record { v = v; p = p }) (falling_turns 15 ++ map pos (numbers_below 16))

-- the ports that these vertices may have
abbrev pub ports_at_all : List ℕ → List MapPort
ports_at_all [] = []
ports_at_all (v ∷ vs) = ports_at v ++ ports_at_all vs

-- all channels of a map, each by the port that it leaves, by vertex and port
abbrev pub channels_in : NetMap → List MapPort
channels_in m = filter (λ d. is_some (map_far m d)) (ports_at_all (numbers_below (length m.vertices)))

-- With n vertices an up channel has the rank n - 1 less the place of its tail, a down channel n more than that place.
abbrev pub rank_by : NetMap → List ℕ → MapPort → ℕ
rank_by m order d =
    if is_up m order d then length m.vertices - 1 - slice_index order d.v else length m.vertices + slice_index order d.v

-- the ranks of all channels of a map, by an order of its vertices
abbrev pub ranks_of : NetMap → List ℕ → List RankEntry
ranks_of m order = map (λ d. record { v = d.v; p = d.p; rank = rank_by m order d }) (channels_in m)
