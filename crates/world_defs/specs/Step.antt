-- One event, and what it does to the world.
use Rattle.std.specs.Prelude.{ℕ, ◌+◌, ℤ, Bool, true, false, ◌||◌, List, [], ◌∷◌, nat_eq, nat_lt, nat_le, is_some}
use Rattle.std.specs.Prelude.{slice_set, if◌then◌else◌, Option, Some, None}
use Rattle.std.specs.Map.{lookup}
use Rattle.net_defs.specs.Route.{host_port}
use Rattle.net_defs.specs.declared.vertex.End.{End}
use Rattle.world_defs.specs.Crossed.{leaving}
use Rattle.packet_defs.specs.declared.host_drop.HostDrop.{HostDrop}
use Rattle.packet_defs.specs.declared.host_drop.HostDrop.TheVariants.{BadCrc as HostBadCrc, RouteLeft as HostRouteLeft}
use Rattle.packet_defs.specs.declared.host_drop.HostDrop.TheVariants.{UnknownType as HostUnknownType}
use Rattle.packet_defs.specs.declared.host_drop.HostDrop.TheVariants.{Malformed as HostMalformed}
use Rattle.world_defs.specs.declared.moved.Why.{Why}
use Rattle.world_defs.specs.declared.moved.Why.TheVariants.{OutOfRange as AwayOutOfRange, NotRoute as AwayNotRoute}
use Rattle.world_defs.specs.declared.moved.Why.TheVariants.{NoCable as AwayNoCable, NewCable as AwayNewCable}
use Rattle.world_defs.specs.declared.moved.Moved.{Moved}
use Rattle.world_defs.specs.declared.moved.Moved.TheVariants.{To, AtHost, Dropped as MovedDropped}
use Rattle.world_defs.specs.declared.moved.Moved.TheVariants.{Blocked as MovedBlocked, Empty}
use Rattle.world_defs.specs.declared.replayed.Replayed.{Replayed}
use Rattle.world_defs.specs.declared.replayed.Replayed.TheVariants.{Back, Busy, Unknown}
use Rattle.world_defs.specs.Links.{LinkState, packet_in, put}
use Rattle.world_defs.specs.Advance.{advance}
use Rattle.world_defs.specs.Fault.{lose, reset, repeat, hold, flip, replay, pull, plug}
use Rattle.world_defs.specs.Mapping.{RoutePart}
use Rattle.world_defs.specs.declared.event.Event.{Event}
use Rattle.world_defs.specs.declared.event.Event.TheVariants.{Ask, Part, Inject, Advance, Lose, Repeat, Hold, Flip}
use Rattle.world_defs.specs.declared.event.Event.TheVariants.{Replay, Reset, Expire, GiveUp, Begin, Close, Provide}
use Rattle.world_defs.specs.declared.event.Event.TheVariants.{Send, Poll, Revoke, Pull, Plug}
use Rattle.world_defs.specs.declared.effect.Effect.{Effect}
use Rattle.world_defs.specs.declared.effect.Effect.TheVariants.{Idle, Injected, Moved as MovedTo, Blocked, Arrived}
use Rattle.world_defs.specs.declared.effect.Effect.TheVariants.{Dropped, Lost, Reset as WasReset, Flipped, Expired}
use Rattle.world_defs.specs.declared.effect.Effect.TheVariants.{GaveUp, Repeated, Held, Replayed as ReplayedTo, Staged}
use Rattle.world_defs.specs.declared.effect.Effect.TheVariants.{Said}
use Rattle.world_defs.specs.declared.effect.Said.TheVariants.{Done}
use Rattle.world_defs.specs.declared.effect.Cause.{Cause}
use Rattle.world_defs.specs.declared.effect.Cause.TheVariants.{OutOfRange, NotRoute, NoCable, NewCable, BadCrc}
use Rattle.world_defs.specs.declared.effect.Cause.TheVariants.{RouteLeft, UnknownType, Malformed, NotMine}
use Rattle.world_defs.specs.declared.fault.Fault.{Fault}
use Rattle.world_defs.specs.declared.fault.Fault.TheVariants.{Lose as LoseFault, Repeat as RepeatFault}
use Rattle.world_defs.specs.declared.fault.Fault.TheVariants.{Hold as HoldFault, Flip as FlipFault, Pull as PullFault}
use Rattle.world_defs.specs.declared.arrival.Arrival.{Arrival}
use Rattle.world_defs.specs.declared.arrival.Arrival.TheVariants.{Heard as Hears, Dropped as HostDropped}
use Rattle.world_defs.specs.declared.arrival.Arrival.TheVariants.{NotMine as ArrivalNotMine}
use Rattle.world_defs.specs.Table.{Adoption, part_for, route_of, revoked_table}
use Rattle.world_defs.specs.Node.{NodeState, StagedProbe, StagedPart, Outgoing, to_send, packet_for}
use Rattle.world_defs.specs.Node.{after_sending, has_staged, given_up, node_expired, unacknowledged_to}
use Rattle.world_defs.specs.Hearing.{hear}
use Rattle.world_defs.specs.Client.{Called, Wanted, begun, closed, provided_by, sent_by, polled_by}
use Rattle.world_defs.specs.World.{WorldState, host_count, last_count, node_at, with_node, with_links}
use Rattle.world_defs.specs.World.{client_at, with_client, with_drop, without_fault, keeps_out}

-- an event that may change the links alone: idle where it isn't possible
abbrev pub of_links : WorldState → Effect → Bool × LinkState → Effect × WorldState
of_links w effect (true, l) = (effect, with_links w l)
of_links w effect (false, l) = (Idle, w)

-- an event that copies or takes a packet into limbo: idle where it isn't possible
abbrev pub of_limbo : WorldState → (ℕ → Effect) → Option ℕ × LinkState → Effect × WorldState
of_limbo w effect (Some serial, l) = (effect serial, with_links w l)
of_limbo w effect (None, l) = (Idle, w)

-- a replay: idle where the packet's channel is full, or nothing stands under the serial
abbrev pub of_replay : WorldState → Replayed × LinkState → Effect × WorldState
of_replay w (Back c, l) = (ReplayedTo c, with_links w l)
of_replay w (Busy c, l) = (Idle, w)
of_replay w (Unknown, l) = (Idle, w)

-- a channel's packet is lost
unfoldable pub lost : WorldState → ℕ → Effect × WorldState
lost w c = of_links w Lost (lose w.links c)

-- a channel's packet is taken away by a reset
unfoldable pub was_reset : WorldState → ℕ → Effect × WorldState
was_reset w c = of_links w WasReset (reset w.links c)

-- a copy of a channel's packet goes to limbo
unfoldable pub repeated : WorldState → ℕ → Effect × WorldState
repeated w c = of_limbo w Repeated (repeat w.links c)

-- a channel's packet goes to limbo
unfoldable pub held : WorldState → ℕ → Effect × WorldState
held w c = of_limbo w Held (hold w.links c)

-- eight bits of a channel's packet are flipped by a pattern
unfoldable pub flipped : WorldState → ℕ → ℕ → ℕ → Effect × WorldState
flipped w c bit pattern = of_links w Flipped (flip w.links c bit pattern)

-- a packet in limbo comes back to its channel
unfoldable pub replayed : WorldState → ℕ → Effect × WorldState
replayed w serial = of_replay w (replay w.links serial)

-- the cable at a port is pulled
unfoldable pub pulled : WorldState → End → Effect × WorldState
pulled w e = of_links w (Said Done) (pull w.links e)

-- two ports are joined by a cable
unfoldable pub plugged : WorldState → End → End → Effect × WorldState
plugged w a b = of_links w (Said Done) (plug w.links a b)

-- a probe of a walk is staged at a host, in the place of what was staged there
unfoldable pub asked : WorldState → ℕ → List ℤ → Bool → Effect × WorldState
asked w h walk looped = (Staged, with_node w h (record (node_at w h) { staged = Some (StagedProbe walk looped) }))

-- a part is staged at its adopter, with the set's route to the host that it is for
abbrev pub stage_at : WorldState → ℕ → Option RoutePart → Option (List ℤ) → Effect × WorldState
stage_at w mapper (Some p) (Some by) = (
  Staged,
  with_node w mapper (record (node_at w mapper) { staged = Some (StagedPart p by) }),
)
stage_at w mapper _ _ = (Idle, w)

-- no part is staged where no routes are adopted
abbrev pub stage_part : WorldState → ℕ → ℕ → Option Adoption → Effect × WorldState
stage_part w dst part None = (Idle, w)
stage_part w dst part (Some a) = stage_at w a.mapper (part_for a dst part) (route_of a.routes a.mapper dst)

-- a part of a host's table is staged at the adopter of the routes, where routes are adopted and have such a part
unfoldable pub part_staged : WorldState → ℕ → ℕ → Effect × WorldState
part_staged w dst part = stage_part w dst part w.adopted

-- what a fault does to the packet of a channel, or to a cable: whether it was possible, and the links after it
abbrev pub fault_on : LinkState → ℕ → Fault → Bool × LinkState
fault_on l c LoseFault = lose l c
fault_on l c RepeatFault = (is_some (repeat l c).0, (repeat l c).1)
fault_on l c HoldFault = (is_some (hold l c).0, (hold l c).1)
fault_on l c (FlipFault bit pattern) = flip l c bit pattern
fault_on l c (PullFault at) = pull l at

-- a fault that keeps its packet from its host, or spoils it; a pull isn't counted as one
abbrev pub is_harm : Fault → Bool
is_harm LoseFault = true
is_harm RepeatFault = false
is_harm HoldFault = true
is_harm (FlipFault bit pattern) = true
is_harm (PullFault at) = false

-- a fault that was possible struck; one that wasn't changes nothing
abbrev pub struck_by : WorldState → Fault → Bool × LinkState → WorldState
struck_by w f (true, l) = record w {
  links = l;
  struck = w.struck + 1;
  harmed = if is_harm f then w.harmed + 1 else w.harmed;
}
struck_by w f (false, l) = w

-- the fault that was planned for the last injection strikes, a packet's fault the one in this channel, and is planned
-- no more
abbrev pub fault_strikes : WorldState → ℕ → Option Fault → WorldState
fault_strikes w c None = w
fault_strikes w c (Some f) = struck_by (record w { plan = without_fault w.injected w.plan }) f (fault_on w.links c f)

-- the fault that is planned for the last injection strikes
unfoldable pub planned_strikes : WorldState → ℕ → WorldState
planned_strikes w c = fault_strikes w c (lookup (nat_eq w.injected) w.plan)

-- a packet enters a channel under the next number, and counts as sent at its host
unfoldable pub sent_out : WorldState → ℕ → ℕ → Outgoing → WorldState
sent_out w h c out = record w {
  links = (put w.links c (packet_for h (w.injected + 1) out)).1;
  nodes = slice_set w.nodes h (after_sending (node_at w h) out);
  injected = w.injected + 1;
}

-- an injection into a channel: idle where there is nothing to send, where the channel is full, where no injection is
-- left, or where a message would go into a new cable
abbrev pub inject_one : WorldState → ℕ → ℕ → Option Outgoing → Effect × WorldState
inject_one w h c None = (Idle, w)
inject_one w h c (Some out) =
    if is_some (packet_in w.links c) || nat_le last_count w.injected || keeps_out w c out then (Idle, w)
    else (Injected (w.injected + 1), planned_strikes (sent_out w h c out) c)

-- an injection is idle where the host has no cable
abbrev pub inject_into : WorldState → ℕ → Option ℕ → Effect × WorldState
inject_into w h None = (Idle, w)
inject_into w h (Some c) = inject_one w h c (to_send h (node_at w h))

-- A host puts what it has to send first into its channel, where it has a cable and that channel is empty, and where the
-- cable isn't new or that is no message; then the planned fault strikes.
unfoldable pub injected : WorldState → ℕ → Effect × WorldState
injected w h = inject_into w h (leaving w.links.cables (host_port h))

-- why a switch dropped a packet
abbrev pub cause_at_switch : Why → Cause
cause_at_switch AwayOutOfRange = OutOfRange
cause_at_switch AwayNotRoute = NotRoute
cause_at_switch AwayNoCable = NoCable
cause_at_switch AwayNewCable = NewCable

-- why a host dropped a packet
abbrev pub cause_at_host : HostDrop → Cause
cause_at_host HostBadCrc = BadCrc
cause_at_host HostRouteLeft = RouteLeft
cause_at_host HostUnknownType = UnknownType
cause_at_host HostMalformed = Malformed

-- what a host made of a packet
abbrev pub arrived : WorldState → ℕ → Arrival × NodeState → Effect × WorldState
arrived w h (Hears heard, n) = (Arrived h heard, with_node w h n)
arrived w h (HostDropped drop, n) = (Dropped (cause_at_host drop), with_drop (with_node w h n))
arrived w h (ArrivalNotMine, n) = (Dropped NotMine, with_drop (with_node w h n))

-- what an advance of the links is in the world: a packet that reaches a host is heard, and one that is dropped is
-- counted
abbrev pub advanced_by : WorldState → Moved (List ℕ) × LinkState → Effect × WorldState
advanced_by w (To next, l) = (MovedTo next, with_links w l)
advanced_by w (AtHost h wire, l) = arrived (with_links w l) h (hear h (host_count w) (node_at w h) wire)
advanced_by w (MovedDropped why, l) = (Dropped (cause_at_switch why), with_drop (with_links w l))
advanced_by w (MovedBlocked next, l) = (Blocked next, w)
advanced_by w (Empty, l) = (Idle, w)

-- a channel's packet goes on, and at a host is heard
unfoldable pub advanced : WorldState → ℕ → Effect × WorldState
advanced w c = advanced_by w (advance w.links c)

-- the time of a host's senders to a peer is up, where something isn't acknowledged, of either priority
unfoldable pub expired : WorldState → ℕ → ℕ → Effect × WorldState
expired w h peer =
    if nat_lt 0 (unacknowledged_to (node_at w h) peer) then (Expired, with_node w h (node_expired (node_at w h) peer))
    else (Idle, w)

-- a host drops its staged items, where it has any
unfoldable pub gave_up : WorldState → ℕ → Effect × WorldState
gave_up w h = if has_staged (node_at w h) then (GaveUp, with_node w h (given_up (node_at w h))) else (Idle, w)

-- a host's table and its parts of an epoch are given up
abbrev pub gives_up_epoch : NodeState → ℕ → NodeState
gives_up_epoch n epoch = record n { table = revoked_table n.table epoch }

-- no epoch is given up where no routes are adopted
abbrev pub revoke_of : WorldState → ℕ → Option Adoption → Effect × WorldState
revoke_of w h None = (Idle, w)
revoke_of w h (Some a) = (Said Done, with_node w h (gives_up_epoch (node_at w h) a.epoch))

-- a host gives up the epoch of the adopted routes, where routes are adopted
unfoldable pub revoked : WorldState → ℕ → Effect × WorldState
revoked w h = revoke_of w h w.adopted

-- what a client's call said, and the world that it leaves
abbrev pub of_call : WorldState → ℕ → ℕ → Called → Effect × WorldState
of_call w h port call = (Said call.said, with_client (with_node w h call.node) h port call.client)

-- what a client wants to send, by its parts
abbrev pub wanted : ℕ → ℕ → ℕ → ℕ → ℕ → ℕ → Wanted
wanted port dest dport prio len seed = record {
  port = port;
  dest = dest;
  dport = dport;
  prio = prio;
  len = len;
  seed = seed;
}

-- What one event does: its effect, and the world after it.
abbrev pub step : WorldState → Event → Effect × WorldState
step w (Ask h walk looped) = asked w h walk looped
step w (Part dst part) = part_staged w dst part
step w (Inject h) = injected w h
step w (Advance c) = advanced w c
step w (Lose c) = lost w c
step w (Repeat c) = repeated w c
step w (Hold c) = held w c
step w (Flip c bit pattern) = flipped w c bit pattern
step w (Replay serial) = replayed w serial
step w (Reset c) = was_reset w c
step w (Expire h peer) = expired w h peer
step w (GiveUp h) = gave_up w h
step w (Begin h port sends recvs) = of_call w h port (begun (node_at w h) port sends recvs (client_at w h port))
step w (Close h port) = of_call w h port (closed (node_at w h) port (client_at w h port))
step w (Provide h port size prio) = of_call w h port (provided_by (node_at w h) port size prio (client_at w h port))
step w (Send h port dest dport prio len seed) =
    of_call w h port (sent_by (node_at w h) (wanted port dest dport prio len seed) (client_at w h port))
step w (Poll h port) = of_call w h port (polled_by (node_at w h) port (client_at w h port))
step w (Revoke h) = revoked w h
step w (Pull e) = pulled w e
step w (Plug a b) = plugged w a b

-- an effect stands before those of what follows
abbrev pub followed_by : Effect × WorldState → (WorldState → List Effect × WorldState) → List Effect × WorldState
followed_by (x, w) rest = (x ∷ (rest w).0, (rest w).1)

-- what events in order do: their effects, and the world after them
abbrev pub steps : WorldState → List Event → List Effect × WorldState
steps w [] = ([], w)
steps w (e ∷ es) = followed_by (step w e) (λ next. steps next es)

-- the world after events
abbrev pub after_all : WorldState → List Event → WorldState
after_all w [] = w
after_all w (e ∷ es) = after_all (step w e).1 es
