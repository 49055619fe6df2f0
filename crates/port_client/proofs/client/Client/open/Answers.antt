use Rattle.std.proofs.Common.{◌∙◌, subst, sym, ◌≤◌}
use Rattle.port_client.proofs.Holding.{opened-view, opened-kept}
use Rattle.port_client.proofs.client.Client.open.Goals as goal

pub invariant_of-result : goal.invariant_of-result
invariant_of-result c =
    let m = c.in_ok-bank.ensures in
    opened-kept c.in_ok-bank.field-0.bank c.args.host c.args.port c.args.sends c.args.recvs c.from_vec.result.items c.from_vec-2.result.items _ _ m.bank (c.from_vec.ensures.items ∙ m.sends) (c.from_vec-2.ensures.items ∙ m.recvs)
    (subst (λ k. c.args.sends ≤ k) (sym c.from_vec.ensures.capacity) m.send_room)
    (subst (λ k. c.args.recvs ≤ k) (sym c.from_vec-2.ensures.capacity) m.recv_room)

pub returns : goal.returns
returns c =
    let m = c.in_ok-bank.ensures in
    opened-view c.in_ok-bank.field-0.bank c.args.host c.args.port c.args.sends c.args.recvs c.from_vec.result.items c.from_vec-2.result.items m.bank (c.from_vec.ensures.items ∙ m.sends) (c.from_vec-2.ensures.items ∙ m.recvs)
