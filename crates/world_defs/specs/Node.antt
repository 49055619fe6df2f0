-- What a host has, and what it sends first.
use Rattle.std.specs.Prelude.{ℕ, ◌+◌, ◌*◌, ◌/◌, ◌%◌, min, ℤ, pos, neg_ℤ, Bool, true, false, ◌||◌, List, [], ◌∷◌, ◌++◌}
use Rattle.std.specs.Prelude.{map, reverse, length, replicate, slice_index_or, slice_set, is_some, if◌then◌else◌}
use Rattle.std.specs.Prelude.{Option, Some, None, option_map, option_and_then}
use Rattle.std.specs.List.{range_with_len}
use Rattle.packet_defs.specs.declared.kind.Kind.TheVariants.{Mapping, Gm}
use Rattle.packet_defs.specs.Packet.{packet_of}
use Rattle.gm_defs.specs.declared.frame.FrameHead.{FrameHead}
use Rattle.gm_defs.specs.declared.frame.ConnectionKey.{ConnectionKey}
use Rattle.gm_defs.specs.Body.{prio_limit, frame_bytes, ack_bytes}
use Rattle.world_defs.specs.Mapping.{RoutePart, mapping_bytes}
use Rattle.world_defs.specs.Mapping.MappingBody.{HostProbe, HostReply, Loopback, Part, PartAck}
use Rattle.gm_defs.specs.Fragment.{frame_of}
use Rattle.gm_defs.specs.Connection.{connection, ack_on, due, unacknowledged}
use Rattle.gm_defs.specs.Token.{PortState}
use Rattle.world_defs.specs.Table.{TableState, new_table, table_route}
use Rattle.world_defs.specs.Lane.{LaneState, new_lane, lane_sent_one, lane_answered, lane_expired}

-- What a host was told to send: a probe of a walk, or a part of a table by a route.
pub data Staged : Type 0 where
  StagedProbe : (walk : List ℤ) → (looped : Bool) → Staged
  StagedPart : (part : RoutePart) → (by : List ℤ) → Staged

-- A reply says which probe it answers, by its number, and has the way back.
pub record StagedReply : Type 0 where
  pub number : ℕ
  pub back : List ℤ

-- An acknowledgement says which part of which epoch was taken, and has the way back.
pub record StagedAck : Type 0 where
  pub epoch : ℕ
  pub part : ℕ
  pub back : List ℤ

-- A host has the staged probe or part, the reply to a probe, the acknowledgement of a part, its table, its lanes by
-- number, and its ports by number, where they are open.
pub record NodeState : Type 0 where
  pub staged : Option Staged
  pub reply : Option StagedReply
  pub part_ack : Option StagedAck
  pub table : TableState
  pub lanes : List LaneState
  pub ports : List (Option PortState)

-- the number of ports of a host
abbrev pub port_count : ℕ
port_count = 8

-- the number of a host's lanes among so many hosts: one for each of them and each priority
abbrev pub lane_count : ℕ → ℕ
lane_count hosts = prio_limit * hosts

-- a priority as lanes tell them apart: any above 0 counts as the greatest
abbrev pub prio_place : ℕ → ℕ
prio_place prio = min prio 1

-- the lane of a peer and a priority: by the peers' addresses, and for one peer by priority
abbrev pub lane_of : ℕ → ℕ → ℕ
lane_of peer prio = prio_limit * peer + prio_place prio

-- the peer of a lane
abbrev pub peer_of : ℕ → ℕ
peer_of lane = lane / prio_limit

-- the priority of a lane
abbrev pub prio_of : ℕ → ℕ
prio_of lane = lane % prio_limit

-- the lane of a connection at the host that sends on it
abbrev pub sending_lane : ConnectionKey → ℕ
sending_lane c = lane_of c.dst c.prio

-- the lane of a connection at the host that takes from it
abbrev pub taking_lane : ConnectionKey → ℕ
taking_lane c = lane_of c.src c.prio

-- the connection on which a host sends by a lane
abbrev pub sends_on : ℕ → ℕ → ConnectionKey
sends_on host lane = connection host (peer_of lane) (prio_of lane)

-- the connection from which a host takes by a lane
abbrev pub takes_from : ℕ → ℕ → ConnectionKey
takes_from host lane = connection (peer_of lane) host (prio_of lane)

-- a host among so many, before anything happened
abbrev pub new_node : ℕ → NodeState
new_node hosts = record {
  staged = None;
  reply = None;
  part_ack = None;
  table = new_table;
  lanes = replicate (lane_count hosts) new_lane;
  ports = replicate port_count None;
}

-- a lane by its number
abbrev pub lane_at : NodeState → ℕ → LaneState
lane_at n lane = slice_index_or n.lanes lane new_lane

-- the host with this lane
abbrev pub with_lane : NodeState → ℕ → LaneState → NodeState
with_lane n lane l = record n { lanes = slice_set n.lanes lane l }

-- a port, where it is open
abbrev pub port_at : NodeState → ℕ → Option PortState
port_at n port = slice_index_or n.ports port None

-- the host with this port, open or not
abbrev pub with_port : NodeState → ℕ → Option PortState → NodeState
with_port n port p = record n { ports = slice_set n.ports port p }

-- the way back of a walk: its turns from the last to the first, each the other way
abbrev pub way_back : List ℤ → List ℤ
way_back walk = map neg_ℤ (reverse walk)

-- What a host sends: a probe, a part, a reply, the acknowledgement of a part, one of the frames of a lane, or a
-- fragment of a lane; the last two with the route to its peer.
pub data Outgoing : Type 0 where
  Probe : (walk : List ℤ) → (looped : Bool) → Outgoing
  TablePart : (part : RoutePart) → (by : List ℤ) → Outgoing
  Reply : StagedReply → Outgoing
  PartAnswer : StagedAck → Outgoing
  FrameAnswer : (lane next : ℕ) → (by : List ℤ) → Outgoing
  Fragment : (lane : ℕ) → (head : FrameHead) → (part : List ℕ) → (by : List ℤ) → Outgoing

-- a fragment or the acknowledgement of fragments, of the type of messages
abbrev pub is_message : Outgoing → Bool
is_message (Probe walk looped) = false
is_message (TablePart part by) = false
is_message (Reply r) = false
is_message (PartAnswer a) = false
is_message (FrameAnswer lane next by) = true
is_message (Fragment lane head part by) = true

-- a staged probe or part as what is sent
abbrev pub outgoing_staged : Staged → Outgoing
outgoing_staged (StagedProbe walk looped) = Probe walk looped
outgoing_staged (StagedPart part by) = TablePart part by

-- the route to the peer of a lane, by the active table
abbrev pub lane_route : NodeState → ℕ → Option (List ℤ)
lane_route n lane = table_route n.table (peer_of lane)

-- an acknowledgement that a lane owes, where the active table has a route to its peer
abbrev pub owed_on : NodeState → ℕ → Option Outgoing
owed_on n lane =
    if (lane_at n lane).owes then option_map (λ by. FrameAnswer lane (lane_at n lane).taken by) (lane_route n lane)
    else None

-- the frame of the number that is due on a lane
abbrev pub due_frame : ℕ → NodeState → ℕ → Option (FrameHead × List ℕ)
due_frame host n lane = option_and_then (λ seq.
    frame_of (sends_on host lane) (lane_at n lane).sent seq) (due (lane_at n lane).sender)

-- the fragment that is due on a lane, where the active table has a route to its peer
abbrev pub due_on : ℕ → NodeState → ℕ → Option Outgoing
due_on host n lane = option_and_then (λ f. option_map (λ by. Fragment lane f.0 f.1 by) (lane_route n lane))
    (due_frame host n lane)

-- the first, if there is one, else the second
abbrev pub either : {A : Type 0} → Option A → Option A → Option A
either (Some x) other = Some x
either None other = other

-- the first that there is
abbrev pub first_some : {A : Type 0} → (ℕ → Option A) → List ℕ → Option A
first_some f [] = None
first_some f (x ∷ xs) = either (f x) (first_some f xs)

-- the numbers of a host's lanes
abbrev pub lanes_of : NodeState → List ℕ
lanes_of n = range_with_len 0 (length n.lanes)

-- What a host sends first: a staged probe or part; a probe reply; a part acknowledgement; an owed acknowledgement; a
-- due fragment. Of the last two it sends that of the least lane: of the peer of least address, and for one peer of the
-- least priority.
unfoldable pub to_send : ℕ → NodeState → Option Outgoing
to_send host n =
    either (option_map outgoing_staged n.staged)
    (either (option_map Reply n.reply)
    (either (option_map PartAnswer n.part_ack)
    (either (first_some (owed_on n) (lanes_of n)) (first_some (due_on host n) (lanes_of n)))))

-- the body of a probe: it carries the number of its own injection
abbrev pub probe_packet : ℕ → ℕ → List ℤ → Bool → List ℕ
probe_packet host number walk true = packet_of (walk ++ pos 0 ∷ way_back walk) Mapping
    (mapping_bytes (Loopback number host))
probe_packet host number walk false = packet_of walk Mapping (mapping_bytes (HostProbe number host (way_back walk)))

-- the packet of what a host sends, injected under a number
unfoldable pub packet_for : ℕ → ℕ → Outgoing → List ℕ
packet_for host number (Probe walk looped) = probe_packet host number walk looped
packet_for host number (TablePart part by) = packet_of by Mapping (mapping_bytes (Part part))
packet_for host number (Reply r) = packet_of r.back Mapping (mapping_bytes (HostReply r.number host))
packet_for host number (PartAnswer a) = packet_of a.back Mapping (mapping_bytes (PartAck a.epoch host a.part))
packet_for host number (FrameAnswer lane next by) = packet_of by Gm (ack_bytes (ack_on (takes_from host lane) next))
packet_for host number (Fragment lane head part by) = packet_of by Gm (frame_bytes head part)

-- the host once that counts as sent
unfoldable pub after_sending : NodeState → Outgoing → NodeState
after_sending n (Probe walk looped) = record n { staged = None }
after_sending n (TablePart part by) = record n { staged = None }
after_sending n (Reply r) = record n { reply = None }
after_sending n (PartAnswer a) = record n { part_ack = None }
after_sending n (FrameAnswer lane next by) = with_lane n lane (lane_answered (lane_at n lane))
after_sending n (Fragment lane head part by) = with_lane n lane (lane_sent_one (lane_at n lane))

-- some item stands that giving up drops
abbrev pub has_staged : NodeState → Bool
has_staged n = is_some n.staged || is_some n.reply || is_some n.part_ack

-- the host without its staged probe or part, probe reply and part acknowledgement
abbrev pub given_up : NodeState → NodeState
given_up n = record n { staged = None; reply = None; part_ack = None }

-- the host whose fragments of a lane are sent again
abbrev pub with_expired : NodeState → ℕ → NodeState
with_expired n lane = with_lane n lane (lane_expired (lane_at n lane))

-- the host whose fragments to a peer are sent again, of both priorities
abbrev pub node_expired : NodeState → ℕ → NodeState
node_expired n peer = with_expired (with_expired n (lane_of peer 0)) (lane_of peer 1)

-- how many fragments of a lane aren't acknowledged
abbrev pub unacknowledged_on : NodeState → ℕ → ℕ
unacknowledged_on n lane = unacknowledged (lane_at n lane).sender

-- how many fragments to a peer aren't acknowledged, of both priorities
abbrev pub unacknowledged_to : NodeState → ℕ → ℕ
unacknowledged_to n peer = unacknowledged_on n (lane_of peer 0) + unacknowledged_on n (lane_of peer 1)
