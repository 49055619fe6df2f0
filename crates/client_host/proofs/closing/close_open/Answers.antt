use Rattle.std.proofs.Common.{◌≡◌, length, ◌∙◌, sym, ap, arith}
use Rattle.std.proofs.lemmas.Grind.{common_steps}
use Rattle.nic_node.specs.Held.{in_state}
use Rattle.world_defs.specs.declared.effect.Said.{Said}
use Rattle.world_defs.specs.Node.{port_at}
use Rattle.client_host.specs.Tied.{held_of, now_holding}
use Rattle.client_host.proofs.Ties.{same-client}
use Rattle.client_host.proofs.Closes.{closing-last, closing-is, closing-refused, bar-few, none-held}
use Rattle.client_host.proofs.closing.close_open.Goals as goal

pub end_closed-requires-clause-own : goal.end_closed-requires-clause-own
end_closed-requires-clause-own c =
    let n = c.args.node.now in
    (closing-last n.host n.hosts c.args.port c.in-Ok.provided.items (port_at n.state c.args.port) c.args.slot.now c.requires.tied c.requires.there c.requires.few c.in-Ok.ensures.refused c.in-Ok.ensures.provided).own

pub end_closed-requires-clause-recvs : goal.end_closed-requires-clause-recvs
end_closed-requires-clause-recvs c =
    let n = c.args.node.now in
    (closing-last n.host n.hosts c.args.port c.in-Ok.provided.items (port_at n.state c.args.port) c.args.slot.now c.requires.tied c.requires.there c.requires.few c.in-Ok.ensures.refused c.in-Ok.ensures.provided).recvs

pub close_cause-requires : goal.close_cause-requires
close_cause-requires c =
    let n = c.args.node.now in
    bar-few n.host n.hosts c.args.port (port_at n.state c.args.port) c.args.slot.now c.in-Err.refusal c.requires.tied c.requires.there c.requires.few c.in-Err.ensures.refused

pub returns-in-Ok-clause-said : goal.returns-in-Ok-clause-said
returns-in-Ok-clause-said c =
    let n = c.args.node.now in
    let x = c.args.slot.now in
    let counted : c.len-count.result ≡ length c.in-Ok.provided.items = grind (arith, common_steps) in
    ap (λ k. Said.Count k) counted ∙ sym (ap (λ k. k.said) (closing-is n.host n.hosts c.args.port c.in-Ok.provided.items n.state x c.requires.tied c.requires.there c.in-Ok.ensures.refused c.in-Ok.ensures.provided))

pub returns-in-Ok-clause-node : goal.returns-in-Ok-clause-node
returns-in-Ok-clause-node c =
    let n = c.args.node.now in
    let x = c.args.slot.now in
    c.in-Ok.ensures.closed ∙ ap (λ k. in_state n k.node) (sym (closing-is n.host n.hosts c.args.port c.in-Ok.provided.items n.state x c.requires.tied c.requires.there c.in-Ok.ensures.refused c.in-Ok.ensures.provided))

pub returns-in-Ok-clause-client : goal.returns-in-Ok-clause-client
returns-in-Ok-clause-client c =
    let n = c.args.node.now in
    let x = c.args.slot.now in
    c.end_closed.ensures ∙ none-held x ∙ ap (λ k. now_holding x k.client) (sym (closing-is n.host n.hosts c.args.port c.in-Ok.provided.items n.state x c.requires.tied c.requires.there c.in-Ok.ensures.refused c.in-Ok.ensures.provided))

pub returns-in-Err-clause-said : goal.returns-in-Err-clause-said
returns-in-Err-clause-said c =
    let n = c.args.node.now in
    let x = c.args.slot.now in
    ap (λ k. Said.Refused k) c.close_cause.ensures ∙ sym (ap (λ k. k.said) (closing-refused n.state c.args.port (held_of x) c.in-Err.refusal c.in-Err.ensures.refused))

pub returns-in-Err-clause-node : goal.returns-in-Err-clause-node
returns-in-Err-clause-node c =
    let n = c.args.node.now in
    let x = c.args.slot.now in
    c.in-Err.ensures.unchanged ∙ ap (λ k. in_state n k.node) (sym (closing-refused n.state c.args.port (held_of x) c.in-Err.refusal c.in-Err.ensures.refused))

pub returns-in-Err-clause-client : goal.returns-in-Err-clause-client
returns-in-Err-clause-client c =
    let n = c.args.node.now in
    let x = c.args.slot.now in
    same-client x ∙ ap (λ k. now_holding x k.client) (sym (closing-refused n.state c.args.port (held_of x) c.in-Err.refusal c.in-Err.ensures.refused))
