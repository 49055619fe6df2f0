use Rattle.std.proofs.Common.{◌≡◌, ◌∙◌, OnOk, length, ap, subst}
use Rattle.nic_node.specs.Held.{in_state}
use Rattle.nic_node.specs.Accepting.{accepted}
use Rattle.client_host.proofs.Sends.{bytes-counted}
use Rattle.client_host.proofs.sending.send_new.Goals as goal

pub send_buffer-requires-clause-whole : goal.send_buffer-requires-clause-whole
send_buffer-requires-clause-whole c = ap length c.in-Ok.ensures ∙ bytes-counted c.args.a.len c.args.seed

pub returns-in-Ok-clause-sent : goal.returns-in-Ok-clause-sent
returns-in-Ok-clause-sent c =
    let n = c.args.node.now in
    subst (λ b. OnOk c.send_buffer.result (c.send_buffer.new.node ≡ in_state n (accepted n.state c.args.port c.args.token.number c.args.a b)))
    c.in-Ok.ensures c.send_buffer.ensures.sent
