-- Entries by rising host, and one of them.
use Rattle.std.specs.Prelude.{◌≡◌, ℕ, ◌+◌, Bool, List, [], ◌∷◌, nat_lt, slice_get, is_some, if◌then◌else◌}
use Rattle.std.specs.Prelude.{Option, Some, None}
use Rattle.world_defs.specs.Mapping.{RouteEntry}
use Rattle.route_install.specs.Collecting.{Numbered, joined_all}

-- the number after the last host of entries, where their hosts rise from a least one on
abbrev pub rises_from : ℕ → List RouteEntry → Option ℕ
rises_from least [] = Some least
rises_from least (e ∷ es) = if nat_lt e.to least then None else rises_from (e.to + 1) es

-- the hosts of entries rise
abbrev pub are_rising : List RouteEntry → Bool
are_rising es = is_some (rises_from 0 es)

-- an entry is one of the parts'
abbrev pub IsEntryOf : List Numbered → RouteEntry → Type 0
IsEntryOf ps e = (k : ℕ) × (slice_get (joined_all ps) k ≡ Some e)
