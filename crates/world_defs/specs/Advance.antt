-- A channel's packet takes one step: on through a switch, to its host, or nowhere.
use Rattle.std.specs.Prelude.{ℕ, List, Option, Some, None, ◌&&◌, not, if◌then◌else◌}
use Rattle.net_defs.specs.declared.vertex.Vertex.{Vertex}
use Rattle.net_defs.specs.declared.vertex.Vertex.TheVariants.{Host, Switch}
use Rattle.net_defs.specs.declared.vertex.End.{End}
use Rattle.net_defs.specs.Network.{ports_of}
use Rattle.world_defs.specs.History.{CableHistory, fabric_now}
use Rattle.world_defs.specs.Crossed.{leaving, life_head, is_new}
use Rattle.packet_defs.specs.Packet.{stripped}
use Rattle.world_defs.specs.declared.turned.Turned.{Turned}
use Rattle.world_defs.specs.declared.turned.Turned.TheVariants.{Out, OutOfRange as TurnedTooFar, NotRoute as NoTurn}
use Rattle.world_defs.specs.declared.moved.Why.TheVariants.{OutOfRange, NotRoute, NoCable, NewCable}
use Rattle.world_defs.specs.declared.moved.Course.{Course}
use Rattle.world_defs.specs.declared.moved.Course.TheVariants.{Arrives, Enters, Drops}
use Rattle.world_defs.specs.declared.moved.Moved.{Moved}
use Rattle.world_defs.specs.declared.moved.Moved.TheVariants.{To, AtHost, Dropped, Blocked, Empty}
use Rattle.world_defs.specs.Kinds.{is_mapping}
use Rattle.world_defs.specs.Switch.{aim}
use Rattle.world_defs.specs.Links.{Held, LinkState, packet_in, with_packet, emptied}

-- a packet enters the channel of a port: it is dropped where the port has no cable, and a new cable takes packets of
-- mapping alone
abbrev pub course_by_channel : CableHistory → List ℕ → Option ℕ → Course
course_by_channel h wire None = Drops NoCable
course_by_channel h wire (Some next) = if is_new h next && not (is_mapping wire) then Drops NewCable else Enters next

-- where a packet goes that leaves a switch by its turn
abbrev pub course_out : CableHistory → ℕ → List ℕ → Turned → Course
course_out h s wire (Out port) = course_by_channel h wire (leaving h (record { v = Switch s; p = port }))
course_out h s wire TurnedTooFar = Drops OutOfRange
course_out h s wire NoTurn = Drops NotRoute

-- a packet arrives at a host, and goes on at a switch by its front turn
abbrev pub course_at : CableHistory → Vertex → ℕ → List ℕ → Course
course_at h (Host a) entry wire = Arrives a
course_at h (Switch s) entry wire = course_out h s wire (aim (ports_of (fabric_now h) (Switch s)) entry wire)

-- where a packet goes that comes to this end
abbrev pub course_into : CableHistory → Option End → List ℕ → Course
course_into h None wire = Drops NoCable
course_into h (Some e) wire = course_at h e.v e.p wire

-- Where a channel's packet goes, whatever the other channels hold: to the host at the channel's head, or by its front
-- turn into the next channel. A switch drops a packet without a turn, with a turn to a port that it lacks, with one to
-- a port without cable, and one that isn't of mapping where it would enter a new cable.
abbrev pub course : CableHistory → ℕ → List ℕ → Course
course h c wire = course_into h (life_head h c) wire

-- a packet enters the next channel, if that is empty once this packet is taken out: it may be the channel that it
-- leaves
abbrev pub entered : LinkState → ℕ → Held → ℕ → Option Held → Moved (List ℕ) × LinkState
entered s c held next None =
    (To next, with_packet (emptied s c) next (Some (record held { wire = stripped held.wire })))
entered s c held next (Some other) = (Blocked next, s)

-- a packet leaves its channel, for a host, for the next channel or for nowhere
abbrev pub gone_on : LinkState → ℕ → Held → Course → Moved (List ℕ) × LinkState
gone_on s c held (Arrives h) = (AtHost h held.wire, emptied s c)
gone_on s c held (Enters next) = entered s c held next (packet_in (emptied s c) next)
gone_on s c held (Drops why) = (Dropped why, emptied s c)

-- an advance of a channel with this packet
abbrev pub advance_of : LinkState → ℕ → Option Held → Moved (List ℕ) × LinkState
advance_of s c None = (Empty, s)
advance_of s c (Some held) = gone_on s c held (course s.cables c held.wire)

-- A channel advances: what becomes of its packet, and the links then.
abbrev pub advance : LinkState → ℕ → Moved (List ℕ) × LinkState
advance s c = advance_of s c (packet_in s c)
