use Rattle.client_host.proofs.Served.{packet-served}
use Rattle.client_host.proofs.host.ClientHost.on_packet.Goals as goal

pub invariant_of-self : goal.invariant_of-self
invariant_of-self c =
    packet-served c.self.inside.node c.on_packet.new.self c.self.inside.clients.items c.args.p.now c.on_packet.result c.self.invariant c.on_packet.ensures.heard c.on_packet.ensures.host c.on_packet.ensures.hosts
    c.on_packet.ensures.unchanged
