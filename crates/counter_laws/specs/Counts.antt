-- What acts did to packets: the effects of their events, the planned faults that struck, and how many of each kind.
use Rattle.std.specs.Prelude.{ℕ, ◌+◌, ◌*◌, ◌/◌, Bool, true, false, List, [], ◌∷◌, ◌++◌, length, nat_eq, is_some}
use Rattle.std.specs.Prelude.{count_by}
use Rattle.std.specs.Prelude.{if◌then◌else◌, Option, Some, None}
use Rattle.std.specs.Map.{lookup}
use Rattle.net_defs.specs.declared.vertex.End.{End}
use Rattle.net_defs.specs.Route.{host_port}
use Rattle.world_defs.specs.Crossed.{leaving}
use Rattle.world_defs.specs.Links.{LinkState, packet_in}
use Rattle.world_defs.specs.declared.event.Event.{Event}
use Rattle.world_defs.specs.declared.event.Event.TheVariants.{Inject, Pull}
use Rattle.world_defs.specs.declared.effect.Effect.{Effect}
use Rattle.world_defs.specs.declared.effect.Effect.TheVariants.{Injected, Arrived, Dropped, Lost, Reset, Repeated, Said}
use Rattle.world_defs.specs.declared.fault.Fault.{Fault}
use Rattle.world_defs.specs.declared.fault.Fault.TheVariants.{Lose as LoseFault, Repeat as RepeatFault}
use Rattle.world_defs.specs.declared.fault.Fault.TheVariants.{Pull as PullFault}
use Rattle.world_defs.specs.Node.{Outgoing, to_send}
use Rattle.world_defs.specs.World.{WorldState, node_at}
use Rattle.world_defs.specs.Step.{fault_on, sent_out, step}
use Rattle.world_defs.specs.Acts.{Act, Happens, Plans, Adopts, acted}

-- the effect of an act that is an event
abbrev pub effect_of : WorldState → Act → List Effect
effect_of w (Happens e) = (step w e).0 ∷ []
effect_of w (Plans ahead fault) = []
effect_of w (Adopts mapper routes) = []

-- the effects of the events among acts, in order
abbrev pub effects_of : WorldState → List Act → List Effect
effects_of w [] = []
effects_of w (a ∷ acts) = effect_of w a ++ effects_of (acted w a) acts

-- the fault that is planned for a channel's packet, where it is possible there
abbrev pub possible_on : LinkState → ℕ → Option Fault → List Fault
possible_on l c None = []
possible_on l c (Some f) = if (fault_on l c f).0 then f ∷ [] else []

-- the planned fault that struck a host's injection of this number, by its channel and what was sent: one that was
-- possible once the packet was in the channel
abbrev pub strike_at : WorldState → ℕ → ℕ → Option ℕ → Option Outgoing → List Fault
strike_at w h number (Some c) (Some out) = possible_on (sent_out w h c out).links c (lookup (nat_eq number) w.plan)
strike_at w h number _ _ = []

-- the planned fault that struck at an event of this effect: that of a host's injection into its channel, and else none
abbrev pub strike_by : WorldState → Effect → Event → List Fault
strike_by w (Injected number) (Inject h) =
    strike_at w h number (leaving w.links.cables (host_port h)) (to_send h (node_at w h))
strike_by w _ _ = []

-- the planned fault that struck at an act
abbrev pub strike_of : WorldState → Act → List Fault
strike_of w (Happens e) = strike_by w (step w e).0 e
strike_of w (Plans ahead fault) = []
strike_of w (Adopts mapper routes) = []

-- the planned faults that struck within acts, in order
abbrev pub strikes_of : WorldState → List Act → List Fault
strikes_of w [] = []
strikes_of w (a ∷ acts) = strike_of w a ++ strikes_of (acted w a) acts

-- how many packets go with the cable of a channel: those in its two channels, and those in limbo that were in them
abbrev pub with_cable : LinkState → Option ℕ → ℕ
with_cable l None = 0
with_cable l (Some c) =
    count_by is_some (packet_in l (2 * (c / 2)) ∷ packet_in l (2 * (c / 2) + 1) ∷ [])
    + count_by (λ e. nat_eq (e.1.channel / 2) (c / 2)) l.limbo

-- how many packets a pull at a port takes
abbrev pub taken_at : LinkState → End → ℕ
taken_at l e = with_cable l (leaving l.cables e)

-- how many packets the planned fault takes, where it is a pull
abbrev pub taken_by_fault : LinkState → Option Fault → ℕ
taken_by_fault l (Some (PullFault at)) = taken_at l at
taken_by_fault l _ = 0

-- how many packets the fault that was planned for a host's injection takes, by its channel and what was sent
abbrev pub taken_on : WorldState → ℕ → ℕ → Option ℕ → Option Outgoing → ℕ
taken_on w h number (Some c) (Some out) = taken_by_fault (sent_out w h c out).links (lookup (nat_eq number) w.plan)
taken_on w h number _ _ = 0

-- how many packets a pull takes at an event of this effect: the event itself, or the one that was planned for it
abbrev pub taken_by : WorldState → Effect → Event → ℕ
taken_by w (Injected number) (Inject h) =
    taken_on w h number (leaving w.links.cables (host_port h)) (to_send h (node_at w h))
taken_by w (Said said) (Pull at) = taken_at w.links at
taken_by w _ _ = 0

-- how many packets pulls take at an act
abbrev pub taken_of : WorldState → Act → ℕ
taken_of w (Happens e) = taken_by w (step w e).0 e
taken_of w (Plans ahead fault) = 0
taken_of w (Adopts mapper routes) = 0

-- how many packets pulls take within acts
abbrev pub taken_in : WorldState → List Act → ℕ
taken_in w [] = 0
taken_in w (a ∷ acts) = taken_of w a + taken_in (acted w a) acts

-- a host injected a packet
abbrev pub is_injection : Effect → Bool
is_injection (Injected number) = true
is_injection _ = false

-- a packet was copied into limbo
abbrev pub is_copy : Effect → Bool
is_copy (Repeated serial) = true
is_copy _ = false

-- a host heard a packet
abbrev pub is_arrival : Effect → Bool
is_arrival (Arrived host heard) = true
is_arrival _ = false

-- a switch or a host dropped a packet
abbrev pub is_drop : Effect → Bool
is_drop (Dropped cause) = true
is_drop _ = false

-- a channel lost its packet
abbrev pub is_loss : Effect → Bool
is_loss Lost = true
is_loss _ = false

-- a reset took a channel's packet
abbrev pub is_reset : Effect → Bool
is_reset Reset = true
is_reset _ = false

-- a fault that copies the packet of its injection
abbrev pub is_copying : Fault → Bool
is_copying RepeatFault = true
is_copying _ = false

-- a fault that loses the packet of its injection
abbrev pub is_losing : Fault → Bool
is_losing LoseFault = true
is_losing _ = false

-- how many packets hosts injected
abbrev pub injections : List Effect → ℕ
injections es = count_by is_injection es

-- how many packets were copied, by events and by planned faults
abbrev pub copies : List Effect → List Fault → ℕ
copies es fs = count_by is_copy es + count_by is_copying fs

-- how many packets hosts heard
abbrev pub arrivals : List Effect → ℕ
arrivals es = count_by is_arrival es

-- how many packets switches and hosts dropped
abbrev pub drops : List Effect → ℕ
drops es = count_by is_drop es

-- how many packets were lost, by events and by planned faults
abbrev pub losses : List Effect → List Fault → ℕ
losses es fs = count_by is_loss es + count_by is_losing fs

-- how many packets resets took
abbrev pub resets : List Effect → ℕ
resets es = count_by is_reset es

-- how many packets stand in channels
abbrev pub in_channels : LinkState → ℕ
in_channels s = count_by is_some s.channels

-- how many packets stand in limbo
abbrev pub in_limbo : LinkState → ℕ
in_limbo s = length s.limbo
