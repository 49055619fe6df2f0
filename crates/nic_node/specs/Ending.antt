-- A port of a host is ended with all that it holds.
use Rattle.std.specs.Prelude.{ℕ, None}
use Rattle.world_defs.specs.Node.{NodeState, new_node, with_port}
use Rattle.nic_node.specs.Held.{HostNode, in_state}

-- a host among so many whose lanes are as before anything was sent
abbrev pub forgotten : ℕ → NodeState → NodeState
forgotten hosts n = record n { lanes = (new_node hosts).lanes }

-- what is left of a host once it ended a port with all that the port held: the port is closed, and the lanes, which had
-- sends of that port, are as before anything was sent
abbrev pub abandoned : HostNode → ℕ → HostNode
abandoned n port = in_state n (with_port (forgotten n.hosts n.state) port None)
