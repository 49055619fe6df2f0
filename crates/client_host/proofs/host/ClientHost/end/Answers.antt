use Rattle.client_host.proofs.Served.{left-ending}
use Rattle.client_host.proofs.host.ClientHost.end.Goals as goal

pub end_clients-requires : goal.end_clients-requires
end_clients-requires c = left-ending c.self.inside.node c.self.inside.clients.items c.self.invariant
