use Rattle.nic_node.specs.Sending.{chosen}
use Rattle.client_host.proofs.Served.{sent-served}
use Rattle.client_host.proofs.host.ClientHost.sent_as.Goals as goal

pub invariant_of-self : goal.invariant_of-self
invariant_of-self c =
    let n = c.self.inside.node in
    sent-served n c.sent_as.new.self c.self.inside.clients.items (chosen n.host n.state c.args.next) c.self.invariant c.sent_as.ensures
