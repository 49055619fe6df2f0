-- The law of the number of walks.
use Rattle.std.specs.Prelude.{◌≡◌, ◌≢◌, ℕ, ◌+◌, ◌≤◌, ℤ, List, length, slice_get, Some}
use Rattle.std.specs.List.{AllByRecursion}
use Rattle.net_defs.specs.declared.place.Place.TheVariants.{Nothing}
use Rattle.net_defs.specs.Network.{Network, Apart}
use Rattle.net_defs.specs.Route.{place}
use Rattle.journal_defs.specs.Walks.{IsOnward}
use Rattle.journal_defs.specs.Part.{farthest, host_distance, walk_count}

-- a walk without turn 0 of at most so many turns, which ends at a host or a switch
pub record IsCounted (n : Network) (host most : ℕ) (w : List ℤ) : Type 0 where
  pub onward : AllByRecursion IsOnward w
  pub few : length w ≤ most
  pub found : place n host w ≢ Nothing

-- all such walks, each once
pub record AreAllWalks (n : Network) (host most : ℕ) (ws : List (List ℤ)) : Type 0 where
  pub once : Apart ws
  pub each : AllByRecursion (IsCounted n host most) ws
  pub whole : (w : List ℤ) → IsCounted n host most w → (k : ℕ) × (slice_get ws k ≡ Some w)

-- the most turns of a walk that W counts: it crosses one cable more than it has turns
abbrev pub most_turns : Network → ℕ → ℕ
most_turns n host = host_distance n host + farthest n host

-- W is the length of the list of all these walks
abbrev pub WalksAreCounted : Type 0
WalksAreCounted = (n : Network) (host : ℕ) → (ws : List (List ℤ)) × AreAllWalks n host (most_turns n host) ws
    × (length ws ≡ walk_count n host)

-- so different walks of this kind are at most W
abbrev pub WalksAreFew : Type 0
WalksAreFew = (n : Network) (host : ℕ) (ws : List (List ℤ)) → Apart ws
    → AllByRecursion (IsCounted n host (most_turns n host)) ws → length ws ≤ walk_count n host
