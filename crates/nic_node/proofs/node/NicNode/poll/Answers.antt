use Rattle.std.proofs.Common.{◌≡◌, ◌∙◌, subst}
use Rattle.std.specs.Prelude.{IfOk, IfSome, option_map}
use Rattle.gm_defs.specs.Port.{next_event}
use Rattle.gm_port.specs.Held.{event_at}
use Rattle.world_defs.specs.Node.{NodeState, port_at}
use Rattle.nic_node.specs.Held.{HostNode, state_of}
use Rattle.std.proofs.Common.{refl}
use Rattle.gm_defs.specs.Port.{polled}
use Rattle.nic_node.proofs.Ticketed.{changed-of}
use Rattle.nic_node.proofs.node.NicNode.poll.Goals as goal

pub returns-clause-first : goal.returns-clause-first
returns-clause-first c =
    let n : NodeState = state_of c.self.inside.items c.self.inside.table c.self.inside.lanes c.self.inside.ports in
    let w : HostNode = record { host = c.self.inside.ports.host; hosts = c.self.inside.lanes.hosts; state = n } in
    let is : w ≡ c.args.self.now = (λ i. record { host = c.self.invariant.own_ports i; hosts = c.self.inside.lanes.hosts; state = n }) ∙ c.self.view_is in
    subst (λ (x : HostNode). IfOk c.poll.result (λ e. IfSome (port_at x.state c.args.port) (λ p. e ≡ option_map (event_at x.host c.args.port) (next_event p)))) is c.poll.ensures.first

pub invariant_of-self : goal.invariant_of-self
invariant_of-self c = changed-of c.self.inside.host c.self.inside.table c.self.inside.lanes c.self.inside.ports c.self.invariant c.poll.new.self c.args.port (λ s. polled s) (λ s. refl) c.poll.ensures.rest
