-- What a contract sees of a host: the host of the world that its parts make.
use Rattle.std.specs.Prelude.{◌≡◌, ◌<◌, ℕ}
use Rattle.world_defs.specs.Node.{NodeState, new_node}
use Rattle.ticket_laws.specs.Host.{Begins, IsBacked}
use Rattle.host_items.specs.Held.{HostItems}
use Rattle.route_install.specs.Collecting.{HostTable}
use Rattle.gm_conn.specs.Lanes.{HostLanes}
use Rattle.host_ports.specs.Held.{HostPorts}

-- A host, among so many hosts, in a state.
pub record HostNode : Type 0 where
  pub host : ℕ
  pub hosts : ℕ
  pub state : NodeState

-- the same host in another state
abbrev pub in_state : HostNode → NodeState → HostNode
in_state n state = record n { state = state }

-- a host among so many, before anything happened
abbrev pub unused_node : ℕ → ℕ → HostNode
unused_node host hosts = record { host = host; hosts = hosts; state = new_node hosts }

-- the state that staged items, a table, lanes and ports make together
abbrev pub state_of : HostItems → HostTable → HostLanes → HostPorts → NodeState
state_of items table lanes ports = record {
  staged = items.staged;
  reply = items.reply;
  part_ack = items.part_ack;
  table = table.state;
  lanes = lanes.lanes;
  ports = ports.ports;
}

-- All parts are this host's, and it is one of the hosts that it has lanes for. Each unfinished message has a send of
-- its own in its port's queue, whose buffer begins with the message's bytes.
pub record AreOfHost (host : ℕ) (table : HostTable) (lanes : HostLanes) (ports : HostPorts) : Type 0 where
  pub own_table : table.host ≡ host
  pub own_lanes : lanes.host ≡ host
  pub own_ports : ports.host ≡ host
  pub among : host < lanes.hosts
  pub backed : IsBacked Begins ports.ports lanes.lanes
