use Rattle.port_client.proofs.Returns.{wreck-whole}
use Rattle.port_client.proofs.client_port.ClientPort.end.Goals as goal

pub end_wreck-requires : goal.end_wreck-requires
end_wreck-requires c =
    let p = c.self.inside.port in
    let e = c.abandon.ensures in
    wreck-whole p.host p.port p.state c.self.inside.client c.abandon.result c.self.invariant e.sending e.provided e.events
