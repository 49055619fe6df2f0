use Rattle.std.proofs.Common.{◌≡◌, ◌∙◌, map, subst}
use Rattle.std.specs.Prelude.{IfSome}
use Rattle.gm_port.specs.Held.{event_at}
use Rattle.world_defs.specs.Node.{NodeState, port_at}
use Rattle.nic_node.specs.Held.{HostNode, state_of}
use Rattle.nic_node.proofs.Ticketed.{ended-of}
use Rattle.nic_node.proofs.node.NicNode.abandon.Goals as goal

pub invariant_of-self : goal.invariant_of-self
invariant_of-self c =
    ended-of c.self.inside.host c.self.inside.table c.self.inside.lanes c.self.inside.ports c.self.invariant c.abandon.new.self c.forget.new.self c.args.port c.abandon.ensures.ended c.forget.ensures

pub returns-in-Some-clause-events : goal.returns-in-Some-clause-events
returns-in-Some-clause-events c =
    let n : NodeState = state_of c.self.inside.items c.self.inside.table c.self.inside.lanes c.self.inside.ports in
    let w : HostNode = record { host = c.self.inside.ports.host; hosts = c.self.inside.lanes.hosts; state = n } in
    let is : w ≡ c.args.self.now = (λ i. record { host = c.self.invariant.own_ports i; hosts = c.self.inside.lanes.hosts; state = n }) ∙ c.self.view_is in
    subst (λ (x : HostNode). IfSome (port_at x.state c.args.port) (λ p. c.in-Some.wreck.events.items ≡ map (event_at x.host c.args.port) p.events)) is c.in-Some.ensures.events
