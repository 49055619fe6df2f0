-- The messages of a host, its lanes and its ports, within a host of the world.
use Rattle.std.specs.Prelude.{ℕ, List, [], ◌∷◌}
use Rattle.gm_defs.specs.declared.frame.FrameHead.{FrameHead}
use Rattle.gm_defs.specs.declared.token.Took.{Took}
use Rattle.gm_defs.specs.declared.token.Took.TheVariants.{NotNext, NoToken, Part, Whole}
use Rattle.gm_defs.specs.Port.{delivered, finished}
use Rattle.world_defs.specs.Lane.{Ticket}
use Rattle.world_defs.specs.Node.{NodeState}
use Rattle.host_ports.specs.Held.{HostPorts, changed}
use Rattle.gm_conn.specs.Lanes.{HostLanes}

-- a host of the world with these lanes and ports
abbrev pub with_messages : NodeState → HostLanes → HostPorts → NodeState
with_messages n lanes ports = record n { lanes = lanes.lanes; ports = ports.ports }

-- a fragment that was taken is at its port
abbrev pub delivered_in : HostPorts → FrameHead → List ℕ → Took → HostPorts
delivered_in p h part NotNext = p
delivered_in p h part NoToken = p
delivered_in p h part Part = changed p h.dport (λ s. delivered s h part)
delivered_in p h part Whole = changed p h.dport (λ s. delivered s h part)

-- the sends of tickets are finished at their ports
abbrev pub finished_in : HostPorts → List Ticket → HostPorts
finished_in p [] = p
finished_in p (t ∷ ts) = finished_in (changed p t.port (λ s. finished s t.token)) ts
