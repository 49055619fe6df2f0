-- The credit of a world: what it has in store to inject, and what may come to be in store.
use Rattle.std.specs.Prelude.{ℕ, ◌+◌, ◌-◌, ◌*◌, List, map, length, is_some, if◌then◌else◌, Option, Some, None}
use Rattle.packet_defs.specs.Host.{body_of}
use Rattle.world_defs.specs.Links.{Held, Caught, LinkState}
use Rattle.world_defs.specs.Mapping.MappingBody.{HostProbe, Part}
use Rattle.world_defs.specs.Lane.{LaneState}
use Rattle.world_defs.specs.Node.{NodeState}
use Rattle.world_defs.specs.Hearing.{PacketBody, OfMapper, OfFrame, packet_read}
use Rattle.world_defs.specs.World.{WorldState, sum_of}
use Rattle.world_defs.specs.Kinds.{unrouted}

-- the answers that what a packet says asks for: a host probe, a part and a frame ask for one
abbrev pub asks : PacketBody → ℕ
asks (OfMapper (HostProbe number mapper back)) = 1
asks (OfMapper (Part p)) = 1
asks (OfFrame h part) = 1
asks _ = 0

-- those that bytes ask for, once their route is gone
abbrev pub wire_credit : List ℕ → ℕ
wire_credit wire = asks (packet_read (body_of (unrouted wire)))

-- a channel's credit is that of its packet
abbrev pub slot_credit : Option Held → ℕ
slot_credit None = 0
slot_credit (Some held) = wire_credit held.wire

-- the credit of a packet in limbo
abbrev pub caught_credit : ℕ × Caught → ℕ
caught_credit e = wire_credit e.1.held.wire

-- the credit of the packets in channels and in limbo
abbrev pub links_credit : LinkState → ℕ
links_credit s = sum_of (map slot_credit s.channels) + sum_of (map caught_credit s.limbo)

-- a lane's credit: two for each fragment that is still to be sent, its packet and its acknowledgement, and one for an
-- acknowledgement that is owed
abbrev pub lane_credit : LaneState → ℕ
lane_credit l = 2 * (l.sender.next - l.sender.cursor) + (if l.owes then 1 else 0)

-- a host's credit: two for a staged probe or part, which is answered; one for each answer; and that of its lanes
abbrev pub node_credit : NodeState → ℕ
node_credit n =
    (if is_some n.staged then 2 else 0) + (if is_some n.reply then 1 else 0) + (if is_some n.part_ack then 1 else 0)
    + sum_of (map lane_credit n.lanes)

-- A world's credit: that of its hosts and of its packets, and one for each planned fault, which may copy a packet.
abbrev pub credit : WorldState → ℕ
credit w = sum_of (map node_credit w.nodes) + links_credit w.links + length w.plan
