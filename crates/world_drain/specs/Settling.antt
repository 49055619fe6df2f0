-- Counts of resets stay at their last value once there.
use Rattle.std.specs.Prelude.{ℕ, min}
use Rattle.world_defs.specs.World.{last_count}

-- a count that stays at its last value once there
abbrev pub capped : ℕ → ℕ
capped n = min n last_count
