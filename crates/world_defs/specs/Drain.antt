-- What a drain and a clear are made of: which events changed something, the channels, and their resets.
use Rattle.std.specs.Prelude.{ℕ, ◌+◌, Bool, true, false, List, [], ◌∷◌, map, length, if◌then◌else◌}
use Rattle.std.specs.List.{range_with_len}
use Rattle.world_defs.specs.declared.event.Event.{Event}
use Rattle.world_defs.specs.declared.event.Event.TheVariants.{Reset}
use Rattle.world_defs.specs.declared.effect.Effect.{Effect}
use Rattle.world_defs.specs.declared.effect.Effect.TheVariants.{Idle, Blocked}
use Rattle.world_defs.specs.World.{WorldState}

-- an event with this effect changed something
abbrev pub changed : Effect → Bool
changed Idle = false
changed (Blocked c) = false
changed _ = true

-- how many events changed something
abbrev pub changes : List Effect → ℕ
changes [] = 0
changes (x ∷ xs) = if changed x then 1 + changes xs else changes xs

-- the numbers of the channels, rising
abbrev pub channels_of : WorldState → List ℕ
channels_of w = range_with_len 0 (length w.links.channels)

-- the events of a reset of each channel, by rising number
abbrev pub resets_of : WorldState → List Event
resets_of w = map Reset (channels_of w)

-- how many resets there were, and the world then
abbrev pub reset_count : List Effect × WorldState → ℕ × WorldState
reset_count (xs, w) = (changes xs, w)
