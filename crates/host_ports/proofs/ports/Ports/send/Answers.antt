use Rattle.std.proofs.Common.{◌≡◌, ◌∙◌, sym, ap}
use Rattle.gm_defs.specs.Port.{sent_with}
use Rattle.gm_tokens.specs.Token.{token_at}
use Rattle.host_ports.proofs.Places.{open-changed, own-is}
use Rattle.host_ports.proofs.ports.Ports.send.Goals as goal

pub send-requires-clause-own : goal.send-requires-clause-own
send-requires-clause-own c =
    let o = own-is c.self.inside.host c.self.inside.ports.items c.args.port c.from.result c.index_mut.result.now c.in-Some.open c.self.invariant c.requires.port c.from.ensures c.index_mut.ensures.value c.in-Some.is in
    let host : c.args.self.now.host ≡ c.in-Some.open.host = ap (λ h. h.host) (sym c.self.view_is) ∙ sym o.0 in
    let port : c.args.port ≡ c.in-Some.open.port = sym o.1 in
    c.requires.own ∙ (λ i. token_at (host i) (port i) c.args.t.number)

pub returns : goal.returns
returns c =
    open-changed c.args.self.now c.self.inside.host c.self.inside.ports.items c.args.port c.from.result c.index_mut.result.now c.in-Some.open c.send.new.self
    (λ s. sent_with s c.args.t.number c.args.b) c.self.view_is c.self.invariant c.requires.port c.from.ensures c.index_mut.ensures.value c.in-Some.is c.in-Ok.ensures.sent
