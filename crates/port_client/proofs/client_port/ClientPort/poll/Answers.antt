use Rattle.std.proofs.Common.{sym, subst}
use Rattle.gm_defs.specs.Port.{polled}
use Rattle.gm_port.specs.Held.{event_of}
use Rattle.port_client.specs.Serving.{IsClientOf}
use Rattle.port_client.proofs.Serving.{now, handed-next, client-polls}
use Rattle.port_client.proofs.client_port.ClientPort.poll.Goals as goal

pub invariant_of-self : goal.invariant_of-self
invariant_of-self c =
    let p = c.self.inside.port in
    let k = c.self.inside.client in
    let e = c.in-Some.event in
    let next = handed-next p c.poll.result e c.in-Some.is c.poll.ensures.first in
    subst (λ q. IsClientOf q c.take_back.new.client) (sym c.poll.ensures.rest)
    (subst (IsClientOf (now p (polled p.state))) (sym c.take_back.ensures.back) (client-polls p k (event_of e) next c.self.invariant))
