use Rattle.std.proofs.Common.{None, ◌∙◌, sym, subst}
use Rattle.gm_defs.specs.Token.{Provided}
use Rattle.gm_defs.specs.Port.{provided_with}
use Rattle.port_client.specs.Serving.{IsClientOf}
use Rattle.port_client.proofs.Tokens.{taken-is}
use Rattle.port_client.proofs.Serving.{now, free-recv, client-provides}
use Rattle.port_client.proofs.client_port.ClientPort.provide.Goals as goal

pub provide-requires-clause-free : goal.provide-requires-clause-free
provide-requires-clause-free c =
    free-recv c.self.inside.port c.self.inside.client c.in-Some.token c.self.invariant (sym c.take_recv.ensures.token ∙ c.in-Some.is)

pub invariant_of-self : goal.invariant_of-self
invariant_of-self c =
    let p = c.self.inside.port in
    let k = c.self.inside.client in
    let t = c.in-Some.token in
    let r : Provided = record { token = t.number; size = c.args.size; prio = c.args.prio; filling = None; buffer = c.args.b } in
    let first = (taken-is k.host k.port k.held.recvs t (sym c.take_recv.ensures.token ∙ c.in-Some.is)).first in
    subst (λ q. IsClientOf q c.take_recv.new.self) (sym c.in-Ok.ensures.provided)
    (subst (IsClientOf (now p (provided_with p.state r))) (sym c.take_recv.ensures.rest) (client-provides p k r first c.self.invariant))
