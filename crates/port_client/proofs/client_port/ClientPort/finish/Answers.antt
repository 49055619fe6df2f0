use Rattle.std.proofs.Common.{sym, subst}
use Rattle.port_client.specs.Serving.{IsClientOf}
use Rattle.port_client.proofs.Serving.{client-finishes}
use Rattle.port_client.proofs.client_port.ClientPort.finish.Goals as goal

pub invariant_of-self : goal.invariant_of-self
invariant_of-self c =
    subst (λ p. IsClientOf p c.self.inside.client) (sym c.finish.ensures.finished)
    (client-finishes c.self.inside.port c.self.inside.client c.from.result c.self.invariant)
