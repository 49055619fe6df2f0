-- What a host makes of a message that is to be sent: why it doesn't accept it, in which order, and what it has of one
-- that it accepted.
use Rattle.std.specs.Prelude.{ℕ, Bool, List, take, is_some, not, if◌then◌else◌, Option, Some, None, option_map}
use Rattle.gm_defs.specs.declared.message.Message.{Message}
use Rattle.gm_port.specs.declared.ask.SendAsk.{SendAsk}
use Rattle.gm_defs.specs.Fragment.{piece_count}
use Rattle.gm_defs.specs.Connection.{is_spent}
use Rattle.gm_defs.specs.Port.{is_too_long, sent_with}
use Rattle.world_defs.specs.Table.{table_route}
use Rattle.world_defs.specs.Lane.{LaneState, with_message}
use Rattle.world_defs.specs.Node.{NodeState, lane_of, lane_at, with_lane, port_at, with_port}
use Rattle.host_ports.specs.declared.ask.PortSend.{PortSend}
use Rattle.host_ports.specs.declared.ask.PortSend.TheVariants.{NotOpen as PortNotOpen, TooLong as PortTooLong}
use Rattle.host_ports.specs.declared.ask.PortSend.TheVariants.{BufferShort as PortShort}
use Rattle.host_ports.specs.Held.{HostPorts, open_at}
use Rattle.host_ports.specs.Refusal.{send_bar as port_bar}
use Rattle.gm_conn.specs.Lanes.{HostLanes, lane_in, with_state}
use Rattle.nic_node.specs.declared.refusal.NodeSend.{NodeSend}
use Rattle.nic_node.specs.declared.refusal.NodeSend.TheVariants.{NotOpen, TooLong, BufferShort, NoRoute, Spent}
use Rattle.nic_node.specs.Held.{HostNode}

-- a refusal of the port, as the host's
abbrev pub port_word : PortSend → NodeSend
port_word PortNotOpen = NotOpen
port_word PortTooLong = TooLong
port_word PortShort = BufferShort

-- the first of two refusals
abbrev pub first_of : Option NodeSend → Option NodeSend → Option NodeSend
first_of (Some refusal) later = Some refusal
first_of None later = later

-- a message isn't accepted, whatever its port and its buffer are, where it is too long, where no route leads to its
-- receiver, and where it needs a number above the greatest
abbrev pub message_bar : LaneState → Bool → ℕ → Option NodeSend
message_bar l route len =
    if is_too_long len then Some TooLong
    else if not route then Some NoRoute
    else if is_spent l.sender (piece_count len) then Some Spent
    else None

-- the same of a host's lane and table
abbrev pub ask_bar : HostNode → SendAsk → Option NodeSend
ask_bar n a =
    message_bar (lane_at n.state (lane_of a.dest a.prio)) (is_some (table_route n.state.table a.dest)) a.len

-- a message isn't accepted for its port, its length or its buffer, and then whatever these are
abbrev pub node_bar : HostLanes → HostPorts → Bool → ℕ → SendAsk → List ℕ → Option NodeSend
node_bar lanes ports route port a buffer =
    first_of (option_map port_word (port_bar (open_at ports port) a.len buffer))
    (message_bar (lane_in lanes (lane_of a.dest a.prio)) route a.len)

-- the lanes of a host, as a contract sees them alone
abbrev pub lanes_in : HostNode → HostLanes
lanes_in n = record { host = n.host; hosts = n.hosts; lanes = n.state.lanes }

-- the ports of a host, as a contract sees them alone
abbrev pub ports_in : HostNode → HostPorts
ports_in n = record { host = n.host; ports = n.state.ports }

-- the same of a host with its own table
abbrev pub send_bar : HostNode → ℕ → SendAsk → List ℕ → Option NodeSend
send_bar n port a buffer = node_bar (lanes_in n) (ports_in n) (is_some (table_route n.state.table a.dest)) port a buffer

-- the message of a send: the first bytes of its buffer
abbrev pub message_sent : ℕ → SendAsk → List ℕ → Message
message_sent port a buffer = record { sport = port; dport = a.dport; prio = a.prio; body = take a.len buffer }

-- the lanes once a send of a port's token was accepted
abbrev pub accepted_in : HostLanes → ℕ → ℕ → SendAsk → List ℕ → HostLanes
accepted_in lanes port token a buffer =
    with_state lanes (lane_of a.dest a.prio) (with_message (lane_in lanes (lane_of a.dest a.prio))
    (message_sent port a buffer)
    (record { port = port; token = token }))

-- a message of a port's token was accepted: its lane has the message, and the port has the token with its buffer
abbrev pub accepted : NodeState → ℕ → ℕ → SendAsk → List ℕ → NodeState
accepted n port token a buffer =
    with_port (with_lane n (lane_of a.dest a.prio)
    (with_message (lane_at n (lane_of a.dest a.prio)) (message_sent port a buffer)
    (record { port = port; token = token }))) port
    (option_map (λ s. sent_with s token buffer) (port_at n port))
