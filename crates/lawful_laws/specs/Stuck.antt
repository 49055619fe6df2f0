-- Lawful traffic is never stuck: numbers rise along the routes, so of all packets the one in the channel of the
-- greatest number can go on.
use Rattle.std.specs.Prelude.{◌≡◌, true, false}
use Rattle.net_defs.specs.Network.{Network}
use Rattle.world_defs.specs.Links.{is_idle}
use Rattle.world_defs.specs.Hops.{is_stuck}
use Rattle.world_defs.specs.World.{WorldState}
use Rattle.world_defs.specs.Traffic.{IsLawfulTraffic}
use Rattle.world_defs.specs.Logs.{drain, clear}
use Rattle.world_defs.specs.Acts.{IsReached}

-- links of lawful traffic aren't stuck
abbrev pub LawfulIsNotStuck : Type 0
LawfulIsNotStuck = (n : Network) (w : WorldState) → IsReached n w → IsLawfulTraffic w → is_stuck w.links ≡ false

-- so a drain leaves them idle
abbrev pub LawfulDrainsIdle : Type 0
LawfulDrainsIdle = (n : Network) (w : WorldState) → IsReached n w → IsLawfulTraffic w
    → is_idle (drain w).world.links ≡ true

-- and a clear resets no channel
abbrev pub LawfulNeedsNoReset : Type 0
LawfulNeedsNoReset = (n : Network) (w : WorldState) → IsReached n w → IsLawfulTraffic w → (clear w).value ≡ 0
