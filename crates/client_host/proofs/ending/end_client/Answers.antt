use Rattle.world_defs.specs.Node.{port_at}
use Rattle.client_host.proofs.Returns.{wreck-is}
use Rattle.client_host.proofs.ending.end_client.Goals as goal

pub end_wreck-requires : goal.end_wreck-requires
end_wreck-requires c =
    let n = c.args.node.now in
    wreck-is n.host n.hosts c.args.port (port_at n.state c.args.port) c.args.client c.in-Some.wreck c.requires.tied c.in-Some.ensures.sending c.in-Some.ensures.provided c.in-Some.ensures.events
