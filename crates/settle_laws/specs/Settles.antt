-- What a settle ends with, after every list of acts.
use Rattle.std.specs.Prelude.{◌<◌}
use Rattle.world_defs.specs.World.{WorldState, last_count}
use Rattle.world_defs.specs.Settled.{IsSettled}
use Rattle.world_defs.specs.Logs.{settle}
use Rattle.settle_laws.specs.Premises.{CanSettle}

-- a settle ends in a settled world, where the count of injections hasn't reached its last value then
abbrev pub SettleEndsSettled : Type 0
SettleEndsSettled = (w : WorldState) → CanSettle w → (settle w).world.injected < last_count → IsSettled (settle w).world
