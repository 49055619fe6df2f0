-- A packet alone in the links: it goes where its route says, since no other packet blocks it.
use Rattle.std.specs.Prelude.{◌≡◌, ℕ, zero, suc, ◌+◌, ◌<◌, false, ℤ, List, length, if◌then◌else◌, Some, None}
use Rattle.std.specs.List.{AllByRecursion}
use Rattle.net_defs.specs.declared.place.Place.{Place}
use Rattle.net_defs.specs.declared.place.Place.TheVariants.{Host as AtHostPlace, Nothing as Stuck}
use Rattle.net_defs.specs.Turn.{IsTurn}
use Rattle.net_defs.specs.Route.{place, place_at, host_port}
use Rattle.packet_defs.specs.declared.kind.Kind.{Kind}
use Rattle.packet_defs.specs.declared.kind.Kind.TheVariants.{Mapping}
use Rattle.packet_defs.specs.Packet.{head, stripped, packet_of}
use Rattle.packet_defs.specs.Host.{has_route}
use Rattle.world_defs.specs.declared.moved.Why.{Why}
use Rattle.world_defs.specs.declared.moved.Why.TheVariants.{OutOfRange, NotRoute, NoCable, NewCable}
use Rattle.world_defs.specs.declared.moved.Course.{Course}
use Rattle.world_defs.specs.declared.moved.Course.TheVariants.{Arrives, Enters, Drops}
use Rattle.world_defs.specs.declared.moved.Moved.{Moved}
use Rattle.world_defs.specs.declared.moved.Moved.TheVariants.{To, AtHost, Dropped}
use Rattle.world_defs.specs.History.{CableHistory, fabric_now}
use Rattle.world_defs.specs.Crossed.{leaving, life_channels, life_head, is_new}
use Rattle.world_defs.specs.Links.{LinkState, bare_links, with_packet}
use Rattle.world_defs.specs.Advance.{course, advance}

-- the links with this packet alone, in a channel
abbrev pub lone : CableHistory → ℕ → List ℕ → LinkState
lone h c wire = with_packet (bare_links h) c (Some (record { wire = wire; marked = false; born = 0 }))

-- what an advance makes of it
abbrev pub lone_after : CableHistory → List ℕ → Course → Moved (List ℕ) × LinkState
lone_after h wire (Arrives a) = (AtHost a wire, bare_links h)
lone_after h wire (Enters next) = (To next, lone h next (stripped wire))
lone_after h wire (Drops why) = (Dropped why, bare_links h)

-- a packet that a switch drops since it has no turn ended at that switch
abbrev pub dropped_place : CableHistory → ℕ → Why → Place
dropped_place h c NotRoute = place_at (life_head h c)
dropped_place h c OutOfRange = Stuck
dropped_place h c NoCable = Stuck
dropped_place h c NewCable = Stuck

-- where it ends: at a host it must have no route left, and from the next channel on it goes further
abbrev pub ended_place : CableHistory → ℕ → List ℕ → (ℕ → Place) → Course → Place
ended_place h c wire further (Arrives a) = if has_route (head wire) then Stuck else AtHostPlace a
ended_place h c wire further (Enters next) = further next
ended_place h c wire further (Drops why) = dropped_place h c why

-- Where a packet alone ends, from a channel on, within so many advances.
abbrev pub lone_place : ℕ → CableHistory → ℕ → List ℕ → Place
lone_place zero h c wire = Stuck
lone_place (suc k) h c wire = ended_place h c wire (λ next. lone_place k h next (stripped wire)) (course h c wire)

-- an advance of the packet's channel is its course
abbrev pub LoneAdvance : Type 0
LoneAdvance = (h : CableHistory) (c : ℕ) (wire : List ℕ) → c < life_channels h
    → advance (lone h c wire) c ≡ lone_after h wire (course h c wire)

-- a mapper's packet ends at the place of its route in the fabric as it stands
abbrev pub LonePacketWalks : Type 0
LonePacketWalks =
    (h : CableHistory) (host : ℕ) (route : List ℤ) (payload : List ℕ) (c : ℕ)
    → AllByRecursion IsTurn route → leaving h (host_port host) ≡ Some c
    → lone_place (length route + 1) h c (packet_of route Mapping payload) ≡ place (fabric_now h) host route

-- and where no cable in place is new, so does every packet
abbrev pub LonePacketWalksWhereNoneIsNew : Type 0
LonePacketWalksWhereNoneIsNew =
    (h : CableHistory) (host : ℕ) (route : List ℤ) (kind : Kind) (payload : List ℕ) (c : ℕ)
    → ((d : ℕ) → is_new h d ≡ false) → AllByRecursion IsTurn route → leaving h (host_port host) ≡ Some c
    → lone_place (length route + 1) h c (packet_of route kind payload) ≡ place (fabric_now h) host route

-- and without a channel the walk is stuck
abbrev pub NoChannelIsStuck : Type 0
NoChannelIsStuck = (h : CableHistory) (host : ℕ) (route : List ℤ) → leaving h (host_port host) ≡ None
    → place (fabric_now h) host route ≡ Stuck
