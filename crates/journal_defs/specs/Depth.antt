-- The depth that suffices to map the mapper's part, and where its journal keeps the node limit.
use Rattle.std.specs.Prelude.{◌⊎◌, ℕ, ◌+◌, ◌≤◌}
use Rattle.net_defs.specs.declared.vertex.Vertex.TheVariants.{Switch}
use Rattle.net_defs.specs.Network.{Network}
use Rattle.journal_defs.specs.Part.{IsInPart, farthest, host_distance, walk_count}
use Rattle.journal_defs.specs.DistanceLaws.{HasHostWithin}

-- the depth that suffices, in cables: Q + D + 1
abbrev pub enough_depth : Network → ℕ → ℕ
enough_depth n host = host_distance n host + farthest n host + 1

-- each switch of the mapper's part has a host cabled to it
abbrev pub EachSwitchHasAHost : Network → ℕ → Type 0
EachSwitchHasAHost n host = (s : ℕ) → IsInPart n host (Switch s) → HasHostWithin n (Switch s) 1

-- the journal of this fabric keeps the node limit
abbrev pub IsSmallEnough : Network → ℕ → Type 0
IsSmallEnough n host = (walk_count n host ≤ 65535) ⊎ EachSwitchHasAHost n host
