use Rattle.std.proofs.Common.{◌∙◌, refl, sym, ap, subst}
use Rattle.gm_defs.specs.Token.{opened}
use Rattle.gm_port.specs.Opened.{OpenPort}
use Rattle.token_moves.proofs.Moves.{owned-new}
use Rattle.port_client.specs.Held.{opened_client}
use Rattle.port_client.specs.Serving.{served, IsClientOf}
use Rattle.port_client.proofs.Returns.{opened-sends, opened-recvs}
use Rattle.port_client.proofs.client_port.ClientPort.open.Goals as goal

pub invariant_of-result : goal.invariant_of-result
invariant_of-result c =
    let a = c.args in
    let port : OpenPort = record { host = a.host; port = a.port; state = opened a.sends a.recvs } in
    let new : IsClientOf port (opened_client a.host a.port a.sends a.recvs) = record { own_host = refl; own_port = refl; minted_sends = refl; minted_recvs = refl; owners = owned-new a.sends a.recvs } in
    subst (λ p. IsClientOf p c.in_ok-client.client) (sym c.in-Ok.ensures) (subst (λ k. IsClientOf port k) (sym c.in_ok-client.ensures) new)

pub retire-requires-clause-sends : goal.retire-requires-clause-sends
retire-requires-clause-sends c = opened-sends c.in_ok-client.client c.args.host c.args.port c.args.sends c.args.recvs c.in_ok-client.ensures

pub retire-requires-clause-recvs : goal.retire-requires-clause-recvs
retire-requires-clause-recvs c = opened-recvs c.in_ok-client.client c.args.host c.args.port c.args.sends c.args.recvs c.in_ok-client.ensures

pub returns-in-Ok : goal.returns-in-Ok
returns-in-Ok c =
    let p = c.in-Ok.ensures in
    let k = c.in_ok-client.ensures in
    ap (λ q. served q c.in_ok-client.client) p ∙ ap (λ q. served (record { host = c.args.host; port = c.args.port; state = opened c.args.sends c.args.recvs }) q) k
