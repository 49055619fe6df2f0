-- Two settles, worked out: the two hosts at one switch, of which host 0 sends host 1 one byte.
use Rattle.std.specs.Prelude.{◌≡◌, List, [], ◌∷◌}
use Rattle.net_defs.specs.Examples.{two_hosts}
use Rattle.gm_defs.specs.Connection.{connection}
use Rattle.world_defs.specs.declared.event.Event.TheVariants.{Inject, Lose, Begin, Provide, Send}
use Rattle.world_defs.specs.Logs.{settle}
use Rattle.world_defs.specs.World.{WorldState, new_world}
use Rattle.world_defs.specs.Examples.{setup_routes}
use Rattle.world_defs.specs.Traffic.{got_on}
use Rattle.world_defs.specs.Settle.{unacknowledged_in}
use Rattle.world_defs.specs.Settled.{IsWaiting}
use Rattle.world_defs.specs.Acts.{Act, Happens, Adopts, acted_all}
use Rattle.message_laws.specs.Examples.{ten}
use Rattle.settle_laws.specs.Premises.{CanSettle}

-- both hosts have their routes, and their ports are open; a buffer is provided, the message is sent, and its frame is
-- lost
abbrev pub lost_acts : List Act
lost_acts =
    Adopts 0 setup_routes ∷ Adopts 1 setup_routes ∷ Happens (Begin 0 0 1 0) ∷ Happens (Begin 1 1 0 1)
    ∷ Happens (Provide 1 1 4 0)
    ∷ Happens (Send 0 0 1 1 0 1 10) ∷ Happens (Inject 0) ∷ Happens (Lose 0) ∷ []

-- the world after them
abbrev pub lost_world : WorldState
lost_world = acted_all (new_world two_hosts) lost_acts

-- it can settle
abbrev pub LostWorldCanSettle : Type 0
LostWorldCanSettle = CanSettle lost_world

-- one fragment isn't acknowledged before the settle, and none after it: the message came
abbrev pub LostFrameIsSentAgain : Type 0
LostFrameIsSentAgain =
    (unacknowledged_in lost_world ≡ 1) × (unacknowledged_in (settle lost_world).world ≡ 0)
    × (got_on (settle lost_world).world (connection 0 1 0) ≡ ten ∷ [])

-- no buffer is provided
abbrev pub bare_acts : List Act
bare_acts =
    Adopts 0 setup_routes ∷ Adopts 1 setup_routes ∷ Happens (Begin 0 0 1 0) ∷ Happens (Begin 1 1 0 1)
    ∷ Happens (Send 0 0 1 1 0 1 10) ∷ []

-- the world after them
abbrev pub bare_world : WorldState
bare_world = acted_all (new_world two_hosts) bare_acts

-- it can settle
abbrev pub BareWorldCanSettle : Type 0
BareWorldCanSettle = CanSettle bare_world

-- after a settle the message still waits
abbrev pub MessageWaitsForToken : Type 0
MessageWaitsForToken = (unacknowledged_in (settle bare_world).world ≡ 1)
    × IsWaiting (settle bare_world).world (connection 0 1 0)
