-- When an event may be given to a world.
use Rattle.std.specs.Prelude.{◌≡◌, ℕ, ◌≤◌, ◌<◌, Bool, true, false, length}
use Rattle.world_defs.specs.declared.event.Event.{Event}
use Rattle.world_defs.specs.declared.event.Event.TheVariants.{Ask, Part, Inject, Advance, Lose, Repeat, Hold, Flip}
use Rattle.world_defs.specs.declared.event.Event.TheVariants.{Replay, Reset, Expire, GiveUp, Begin, Close, Provide}
use Rattle.world_defs.specs.declared.event.Event.TheVariants.{Send, Poll, Revoke, Pull, Plug}
use Rattle.world_defs.specs.World.{WorldState, host_count}
use Rattle.client_host.specs.Calls.{call_takes_memory}

-- the host is there
abbrev pub IsHostOf : WorldState → ℕ → Type 0
IsHostOf w h = h < host_count w

-- the channel is there
abbrev pub IsChannelOf : WorldState → ℕ → Type 0
IsChannelOf w c = c < length w.links.channels

-- The hosts, ports and channels of an event are there, a loopback probe has room for its way back, and a message has
-- one of two priorities.
abbrev pub IsGiven : WorldState → Event → Type 0
IsGiven w (Ask h walk looped) = IsHostOf w h × (looped ≡ true → length walk ≤ 31)
IsGiven w (Part dst part) = IsHostOf w dst
IsGiven w (Inject h) = IsHostOf w h
IsGiven w (Advance c) = IsChannelOf w c
IsGiven w (Lose c) = IsChannelOf w c
IsGiven w (Repeat c) = IsChannelOf w c
IsGiven w (Hold c) = IsChannelOf w c
IsGiven w (Flip c bit pattern) = IsChannelOf w c
IsGiven w (Replay serial) = Unit {0}
IsGiven w (Reset c) = IsChannelOf w c
IsGiven w (Expire h peer) = IsHostOf w h × IsHostOf w peer
IsGiven w (GiveUp h) = IsHostOf w h
IsGiven w (Begin h port sends recvs) = IsHostOf w h × (port < 8)
IsGiven w (Close h port) = IsHostOf w h × (port < 8)
IsGiven w (Provide h port size prio) = IsHostOf w h × (port < 8)
IsGiven w (Send h port dest dport prio len seed) =
    IsHostOf w h × IsHostOf w dest × (port < 8) × (dport < 8) × (prio < 2)
IsGiven w (Poll h port) = IsHostOf w h × (port < 8)
IsGiven w (Revoke h) = IsHostOf w h
IsGiven w (Pull at) = Unit {0}
IsGiven w (Plug a b) = Unit {0}

-- an event may take memory: of the calls of clients those that may
abbrev pub takes_memory : Event → Bool
takes_memory (Lose c) = false
takes_memory (Replay serial) = false
takes_memory (Reset c) = false
takes_memory (Expire h peer) = false
takes_memory (GiveUp h) = false
takes_memory (Revoke h) = false
takes_memory (Pull at) = false
takes_memory (Plug a b) = true
takes_memory e = call_takes_memory e
