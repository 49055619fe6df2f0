-- A part of a drain.
use Rattle.std.specs.Prelude.{◌≡◌}
use Rattle.world_defs.specs.World.{WorldState}
use Rattle.world_defs.specs.Logs as log
use Rattle.world_defs.specs.Row.{IsPartWay}
use Rattle.world_drain.specs.declared.seen.Watch.{Watch}
use Rattle.world_drain.specs.declared.seen.Seen.{Seen}
use Rattle.world_drain.specs.Watch.{seen_in, seen_then}

-- A drain of a world led so far: what was seen, and then what a drain from here on shows, is what the whole drain
-- shows; both drains end in one world; and what is part of the way along the one is so along the other.
pub record IsDrainedTo (watch : Watch) (first now : WorldState) (seen : Seen) : Type 0 where
  pub shown : seen_then seen (seen_in watch (log.drain now).value) ≡ seen_in watch (log.drain first).value
  pub after : (log.drain now).world ≡ (log.drain first).world
  pub way : (v : WorldState) → IsPartWay now (log.drain now).events v → IsPartWay first (log.drain first).events v
