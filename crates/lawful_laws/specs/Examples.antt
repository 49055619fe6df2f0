-- Worked examples: a frame on its way is lawful; probes may be stuck, and of a walk with a turn out of range no host
-- reads the probe; and where clears begin among events.
use Rattle.std.specs.Prelude.{◌≡◌, ◌↔◌, pos, true, false, List, [], ◌∷◌, Some, option_map, Err}
use Rattle.net_defs.specs.Examples.{two_hosts, self_cabled}
use Rattle.packet_defs.specs.declared.host_drop.HostDrop.TheVariants.{UnknownType}
use Rattle.packet_defs.specs.Host.{body_of}
use Rattle.world_defs.specs.Links.{packet_in}
use Rattle.world_defs.specs.Hops.{is_stuck}
use Rattle.world_defs.specs.Kinds.{unrouted}
use Rattle.world_defs.specs.declared.event.Event.{Event}
use Rattle.world_defs.specs.declared.event.Event.TheVariants.{Ask, Inject, Advance, Reset, Begin, Send}
use Rattle.world_defs.specs.World.{WorldState, new_world}
use Rattle.world_defs.specs.Step.{after_all}
use Rattle.world_defs.specs.Traffic.{IsLawfulTraffic, channels_ahead}
use Rattle.world_defs.specs.Examples.{setup_routes}
use Rattle.world_defs.specs.Acts.{Act, Happens, Adopts, acted_all, IsReached}
use Rattle.lawful_laws.specs.Resets.{ClearsBeginLawful}

-- host 0 of the two at one switch adopts the routes, and injects a frame for host 1
abbrev pub frame_acts : List Act
frame_acts = Adopts 0 setup_routes ∷ Happens (Begin 0 0 1 0) ∷ Happens (Send 0 0 1 1 0 1 10) ∷ Happens (Inject 0) ∷ []

-- the world after them
abbrev pub frame_world : WorldState
frame_world = acted_all (new_world two_hosts) frame_acts

-- it is reached
abbrev pub FrameWorldIsReached : Type 0
FrameWorldIsReached = IsReached two_hosts frame_world

-- before the frame lies the whole of its route: its own channel, and the one from the switch to host 1
abbrev pub FrameIsAhead : Type 0
FrameIsAhead = option_map (λ held. channels_ahead frame_world 0 held.wire) (packet_in frame_world.links 0)
    ≡ Some (0 ∷ 3 ∷ [])

-- so the traffic is lawful
abbrev pub FrameIsLawful : Type 0
FrameIsLawful = IsLawfulTraffic frame_world

-- two probes into the cable of a switch with itself, one each way, and each back by where it came from
abbrev pub stuck_acts : List Act
stuck_acts =
    Happens (Ask 0 (pos 3 ∷ pos 1 ∷ pos 0 ∷ []) false) ∷ Happens (Inject 0) ∷ Happens (Advance 0) ∷ Happens (Advance 4)
    ∷ Happens (Ask 0 (pos 3 ∷ pos 2 ∷ pos 0 ∷ []) false) ∷ Happens (Inject 0) ∷ Happens (Advance 0)
    ∷ Happens (Advance 4) ∷ []

-- the world after them
abbrev pub stuck_world : WorldState
stuck_world = acted_all (new_world self_cabled) stuck_acts

-- it is reached
abbrev pub StuckWorldIsReached : Type 0
StuckWorldIsReached = IsReached self_cabled stuck_world

-- each probe waits for the other's channel: that traffic is lawful can't be left out
abbrev pub ProbesAreStuck : Type 0
ProbesAreStuck = is_stuck stuck_world.links ≡ true

-- host 0 is asked a walk with a turn that isn't one, and injects its probe
abbrev pub strange_acts : List Act
strange_acts = Happens (Ask 0 (pos 100 ∷ []) false) ∷ Happens (Inject 0) ∷ []

-- the world after them
abbrev pub strange_world : WorldState
strange_world = acted_all (new_world two_hosts) strange_acts

-- it is reached
abbrev pub StrangeWorldIsReached : Type 0
StrangeWorldIsReached = IsReached two_hosts strange_world

-- no body of the mapper's protocol is read of it: so a probe is what its bytes are, and not what is read of them
abbrev pub StrangeIsUnread : Type 0
StrangeIsUnread = option_map (λ held. body_of (unrouted held.wire)) (packet_in strange_world.links 0)
    ≡ Some (Err UnknownType)

-- among these events a clear begins with the first, and another with the last
abbrev pub two_clears : List Event
two_clears = Advance 0 ∷ Reset 1 ∷ Inject 0 ∷ Advance 0 ∷ []

-- so what is asked for is lawful traffic before these two
abbrev pub TwoClearsBegin : Type 0
TwoClearsBegin = (w : WorldState) → ClearsBeginLawful w two_clears
    ↔ IsLawfulTraffic w × IsLawfulTraffic (after_all w (Advance 0 ∷ Reset 1 ∷ Inject 0 ∷ []))
