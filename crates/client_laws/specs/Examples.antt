-- A send token that comes back, worked out: the two hosts at one switch, of which host 0 sends host 1 one byte.
use Rattle.std.specs.Prelude.{◌≡◌, Some, None}
use Rattle.net_defs.specs.Examples.{two_hosts}
use Rattle.world_defs.specs.declared.event.Event.TheVariants.{Poll}
use Rattle.world_defs.specs.declared.effect.Effect.TheVariants.{Said as Says}
use Rattle.world_defs.specs.declared.effect.Said.TheVariants.{Sent as SaidSent}
use Rattle.world_defs.specs.World.{new_world}
use Rattle.world_defs.specs.Step.{step}
use Rattle.message_laws.specs.Examples.{answered_acts, answered_world, ten}
use Rattle.client_laws.specs.Noted.{noted_in}

-- host 0 sent a byte with the token 0, by the lane of host 1 and priority 0, and it is acknowledged; a poll there
-- answers that token
abbrev pub TokenIsNoted : Type 0
TokenIsNoted =
    (noted_in 0 0 0 (new_world two_hosts) answered_acts None ≡ Some (record { lane = 2; place = 0; message = ten }))
    × ((step answered_world (Poll 0 0)).0 ≡ Says (SaidSent 0))
