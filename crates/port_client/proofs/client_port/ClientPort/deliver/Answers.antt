use Rattle.std.proofs.Common.{sym, subst}
use Rattle.port_client.specs.Serving.{IsClientOf}
use Rattle.port_client.proofs.Serving.{client-delivered}
use Rattle.port_client.proofs.client_port.ClientPort.deliver.Goals as goal

pub invariant_of-self : goal.invariant_of-self
invariant_of-self c =
    subst (λ p. IsClientOf p c.self.inside.client) (sym c.deliver.ensures.delivered)
    (client-delivered c.self.inside.port c.self.inside.client c.args.h.now c.args.part.now c.self.invariant)
