use Rattle.std.proofs.Common.{◌∙◌, sym, subst}
use Rattle.gm_defs.specs.Port.{sent_with}
use Rattle.port_client.specs.Serving.{IsClientOf}
use Rattle.port_client.proofs.Tokens.{taken-is}
use Rattle.port_client.proofs.Serving.{now, free-send, client-sends}
use Rattle.port_client.proofs.client_port.ClientPort.send.Goals as goal

pub send-requires-clause-free : goal.send-requires-clause-free
send-requires-clause-free c =
    free-send c.self.inside.port c.self.inside.client c.in-Some.token c.self.invariant (sym c.take_send.ensures.token ∙ c.in-Some.is)

pub invariant_of-self : goal.invariant_of-self
invariant_of-self c =
    let p = c.self.inside.port in
    let k = c.self.inside.client in
    let t = c.in-Some.token in
    let first = (taken-is k.host k.port k.held.sends t (sym c.take_send.ensures.token ∙ c.in-Some.is)).first in
    subst (λ q. IsClientOf q c.take_send.new.self) (sym c.in-Ok.ensures.sent)
    (subst (IsClientOf (now p (sent_with p.state t.number c.args.b))) (sym c.take_send.ensures.rest) (client-sends p k t.number c.args.b first c.self.invariant))
