-- What a host makes of a packet that reaches it.
use Rattle.std.specs.Prelude.{ℕ, Bool, true, false, ◌&&◌, List, [], ◌∷◌, nat_eq, nat_lt, Option, Some, None, option_map}
use Rattle.std.specs.Prelude.{is_some, Result, Ok, Err}
use Rattle.std.specs.List.{list_all}
use Rattle.packet_defs.specs.declared.kind.Kind.{Kind}
use Rattle.packet_defs.specs.declared.kind.Kind.TheVariants.{Mapping, Gm}
use Rattle.packet_defs.specs.declared.host_drop.HostDrop.{HostDrop}
use Rattle.packet_defs.specs.declared.host_drop.HostDrop.TheVariants.{Malformed}
use Rattle.packet_defs.specs.Host.{decode as decode_packet}
use Rattle.gm_defs.specs.declared.message.Message.{Message}
use Rattle.gm_defs.specs.declared.frame.FrameHead.{FrameHead}
use Rattle.gm_defs.specs.declared.frame.Ack.{Ack}
use Rattle.gm_defs.specs.declared.frame.GmBody.{GmBody}
use Rattle.gm_defs.specs.declared.frame.GmBody.TheVariants.{Frame, Ack as Acknowledges}
use Rattle.gm_defs.specs.declared.frame.Malformed.{Malformed as NoBody}
use Rattle.gm_defs.specs.declared.token.Took.{Took}
use Rattle.gm_defs.specs.declared.token.Took.TheVariants.{NotNext as TookNotNext, NoToken as TookNoToken}
use Rattle.gm_defs.specs.declared.token.Took.TheVariants.{Part as TookPart, Whole}
use Rattle.gm_defs.specs.Body.{is_last, decode, part_in}
use Rattle.world_defs.specs.Mapping.{RoutePart, MappingBody, decode_mapping}
use Rattle.world_defs.specs.Mapping.MappingBody.{HostProbe, HostReply, Loopback, Part, PartAck}
use Rattle.gm_defs.specs.Connection.{key_of, took}
use Rattle.gm_defs.specs.Token.{PortState, fitting, has_begun, can_take}
use Rattle.gm_defs.specs.Port.{delivered, finished}
use Rattle.world_defs.specs.declared.applied.Applied.{Applied}
use Rattle.world_defs.specs.declared.applied.Applied.TheVariants.{Part as OnePart, Active, Old}
use Rattle.world_defs.specs.declared.heard.Heard.{Heard}
use Rattle.world_defs.specs.declared.heard.Heard.TheVariants.{Probe, Reply, Loop, Routes, RoutesAck}
use Rattle.world_defs.specs.declared.heard.Heard.TheVariants.{Message as WholeMessage, Fragment, NotNext, NoToken}
use Rattle.world_defs.specs.declared.heard.Heard.TheVariants.{Ack as AckHeard}
use Rattle.world_defs.specs.declared.arrival.Arrival.{Arrival}
use Rattle.world_defs.specs.declared.arrival.Arrival.TheVariants.{Heard as Hears, Dropped, NotMine}
use Rattle.world_defs.specs.Table.{TableState, applied}
use Rattle.world_defs.specs.Lane.{Ticket, lane_acknowledged, tickets_finished, lane_after}
use Rattle.world_defs.specs.Node.{NodeState, StagedAck, sending_lane, taking_lane, lane_at, with_lane, port_at}
use Rattle.world_defs.specs.Node.{with_port}

-- the address of one of so many hosts
abbrev pub is_host : ℕ → ℕ → Bool
is_host hosts address = nat_lt address hosts

-- what the host heard where a test holds; else the packet isn't for it, and changes nothing
abbrev pub heard_if : Bool → NodeState → Heard × NodeState → Arrival × NodeState
heard_if true n (heard, after) = (Hears heard, after)
heard_if false n (heard, after) = (NotMine, n)

-- a part that was taken is acknowledged by its own way back, in the place of an earlier acknowledgement
abbrev pub part_answer : Option StagedAck → RoutePart → Applied → Option StagedAck
part_answer staged p OnePart = Some (record { epoch = p.epoch; part = p.part; back = p.back })
part_answer staged p Active = Some (record { epoch = p.epoch; part = p.part; back = p.back })
part_answer staged p Old = staged

-- the host once a part was applied to its table
abbrev pub part_heard : NodeState → RoutePart → Applied × TableState → NodeState
part_heard n p r = record n { table = r.1; part_ack = part_answer n.part_ack p r.0 }

-- all addresses of a part are hosts, and the part is for this one
abbrev pub is_part_for : ℕ → ℕ → RoutePart → Bool
is_part_for host hosts p = nat_eq p.dst host && is_host hosts p.mapper && list_all (λ e. is_host hosts e.to) p.entries

-- a provided token of an open port takes a fragment
abbrev pub port_takes : Option PortState → FrameHead → Bool
port_takes None h = false
port_takes (Some p) h = can_take p h

-- a provided token of an open port, filling ones left aside, fits a message
abbrev pub port_fits : Option PortState → ℕ → ℕ → Bool
port_fits None len prio = false
port_fits (Some p) len prio = is_some (fitting p len prio)

-- a provided token of an open port is filling with a message of a host and of a priority
abbrev pub port_has_begun : Option PortState → ℕ → ℕ → Bool
port_has_begun None src prio = false
port_has_begun (Some p) src prio = has_begun p src prio

-- the message of a frame, with the bytes of its fragment alone
abbrev pub message_of : FrameHead → List ℕ → Message
message_of h part = record { sport = h.sport; dport = h.dport; prio = h.prio; body = part }

-- what is heard of a frame, by what was made of it
abbrev pub took_word : Took → Heard
took_word TookNotNext = NotNext
took_word TookNoToken = NoToken
took_word TookPart = Fragment
took_word Whole = WholeMessage

-- a fragment goes to its port where it was taken
abbrev pub delivered_after : NodeState → FrameHead → List ℕ → Took → NodeState
delivered_after n h part TookNotNext = n
delivered_after n h part TookNoToken = n
delivered_after n h part TookPart = with_port n h.dport (option_map (λ p. delivered p h part) (port_at n h.dport))
delivered_after n h part Whole = with_port n h.dport (option_map (λ p. delivered p h part) (port_at n h.dport))

-- the lane of a frame's connection at the host that takes it
abbrev pub frame_lane : FrameHead → ℕ
frame_lane h = taking_lane (key_of (Frame h))

-- the lane of an acknowledgement's connection at the host that sent the fragments
abbrev pub ack_lane : Ack → ℕ
ack_lane a = sending_lane (key_of (Acknowledges a))

-- what a host hears of a frame, and the host once its lane and its port took it
abbrev pub frame_heard : NodeState → FrameHead → List ℕ → Took → Heard × NodeState
frame_heard n h part t = (
  took_word t,
  delivered_after (with_lane n (frame_lane h)
      (lane_after (lane_at n (frame_lane h)) t (message_of h part))) h part t,
)

-- what is made of a frame: its number must be the next of its lane, and a token must take its fragment
abbrev pub frame_took : NodeState → FrameHead → Took
frame_took n h =
    took (lane_at n (frame_lane h)).taken h.seq (port_takes (port_at n h.dport) h) (is_last h.total h.offset)

-- the sends of tickets are finished at their ports
abbrev pub all_finished : NodeState → List Ticket → NodeState
all_finished n [] = n
all_finished n (t ∷ ts) = all_finished (with_port n t.port (option_map (λ p. finished p t.token) (port_at n t.port))) ts

-- an acknowledgement finishes sends of its lane
abbrev pub ack_heard : NodeState → Ack → NodeState
ack_heard n a =
    all_finished (with_lane n (ack_lane a) (lane_acknowledged (lane_at n (ack_lane a)) a.next))
    (tickets_finished (lane_at n (ack_lane a)) a.next)

-- What a packet says to a host: a body of the mapper's protocol, a frame with the bytes of its fragment, an
-- acknowledgement of frames, or nothing that can be read, with the cause of its drop.
pub data PacketBody : Type 0 where
  OfMapper : MappingBody → PacketBody
  OfFrame : FrameHead → List ℕ → PacketBody
  OfAck : Ack → PacketBody
  Unread : HostDrop → PacketBody

-- a payload of the mapper's protocol that is no body of it is malformed
abbrev pub mapping_read : Option MappingBody → PacketBody
mapping_read None = Unread Malformed
mapping_read (Some body) = OfMapper body

-- and so is one of messages that is neither a frame nor an acknowledgement
abbrev pub messages_read : List ℕ → Result GmBody NoBody → PacketBody
messages_read payload (Err e) = Unread Malformed
messages_read payload (Ok (Frame h)) = OfFrame h (part_in payload)
messages_read payload (Ok (Acknowledges a)) = OfAck a

-- what a packet says, of which a kind and a payload were read, or the cause of its drop
abbrev pub packet_read : Result (Kind × List ℕ) HostDrop → PacketBody
packet_read (Err drop) = Unread drop
packet_read (Ok (Mapping, payload)) = mapping_read (decode_mapping payload)
packet_read (Ok (Gm, payload)) = messages_read payload (decode payload)

-- What a host makes of what a packet says. A probe stages a reply; a loopback probe is heard by its mapper alone;
-- replies and acknowledgements of parts are heard by any host, and change nothing; a part, a frame and an
-- acknowledgement must name the host. Each address in it must be a host's. What can't be read is dropped.
abbrev pub hear_body : ℕ → ℕ → NodeState → PacketBody → Arrival × NodeState
hear_body host hosts n (Unread drop) = (Dropped drop, n)
hear_body host hosts n (OfMapper (HostProbe number mapper back)) =
    heard_if (is_host hosts mapper) n (Probe, record n { reply = Some (record { number = number; back = back }) })
hear_body host hosts n (OfMapper (HostReply number from)) = heard_if (is_host hosts from) n (Reply number from, n)
hear_body host hosts n (OfMapper (Loopback number mapper)) = heard_if (nat_eq mapper host) n (Loop number, n)
hear_body host hosts n (OfMapper (Part p)) =
    heard_if (is_part_for host hosts p) n (Routes, part_heard n p (applied n.table p))
hear_body host hosts n (OfMapper (PartAck epoch from part)) =
    heard_if (is_host hosts from) n (RoutesAck epoch from part, n)
hear_body host hosts n (OfFrame h part) =
    heard_if (nat_eq h.dst host && is_host hosts h.src) n (frame_heard n h part (frame_took n h))
hear_body host hosts n (OfAck a) = heard_if (nat_eq a.dst host && is_host hosts a.src) n (AckHeard, ack_heard n a)

-- A host, one of so many, hears the bytes of a packet that reached it: what it makes of them, and the host then.
unfoldable pub hear : ℕ → ℕ → NodeState → List ℕ → Arrival × NodeState
hear host hosts n wire = hear_body host hosts n (packet_read (decode_packet wire))
