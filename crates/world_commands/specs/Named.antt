-- That an effect names what is there.
use Rattle.world_defs.specs.declared.effect.Effect.{Effect}
use Rattle.world_defs.specs.declared.effect.Effect.TheVariants.{Moved, Blocked, Arrived, Replayed}
use Rattle.world_defs.specs.World.{WorldState, fabric_of}
use Rattle.fab_report.specs.There.{IsHost}
use Rattle.fab_world.specs.Events.{IsChannelOf}

-- the channel or the host that an effect names is there
abbrev pub IsNaming : WorldState → Effect → Type 0
IsNaming w (Moved c) = IsChannelOf w c
IsNaming w (Blocked c) = IsChannelOf w c
IsNaming w (Arrived h heard) = IsHost (fabric_of w) h
IsNaming w (Replayed c) = IsChannelOf w c
IsNaming w _ = Unit {0}
