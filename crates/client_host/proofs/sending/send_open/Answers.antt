use Rattle.std.proofs.Common.{◌∙◌, Some, refl, sym, ap}
use Rattle.world_defs.specs.Step.{wanted}
use Rattle.world_defs.specs.declared.effect.Said.{Said}
use Rattle.world_defs.specs.Client.{client_bytes, send_refusal}
use Rattle.nic_node.specs.Held.{in_state}
use Rattle.client_host.specs.Tied.{now_holding}
use Rattle.port_client.proofs.Tokens.{taken-is, none-taken}
use Rattle.client_host.proofs.Tokens.{free-send}
use Rattle.client_host.proofs.Sends.{accepted-is}
use Rattle.client_host.proofs.Returns.{returned-send}
use Rattle.client_host.proofs.Calling.{unless, sent_call, sending-none, sending-some, none-left-sends, told-said, told-node, told-client, told-wanting}
use Rattle.client_host.proofs.sending.send_open.Goals as goal

pub send_token-requires-clause-free : goal.send_token-requires-clause-free
send_token-requires-clause-free c =
    free-send c.args.node.now.host c.args.node.now.hosts c.args.port _ c.args.client.now c.in-Some.token c.requires.tied (sym c.take_send.ensures.token ∙ c.in-Some.is)

pub returns-in-Ok-clause-said : goal.returns-in-Ok-clause-said
returns-in-Ok-clause-said c =
    let n = c.args.node.now in
    let k = c.args.client.now in
    let t = c.in-Some.token in
    let first = sym c.take_send.ensures.token ∙ c.in-Some.is in
    let made = (sending-some n.host n.hosts n.state (wanted c.args.port c.args.a.dest c.args.a.dport c.args.a.prio c.args.a.len c.args.seed) k t.number c.requires.tied (taken-is k.host k.port k.held.sends t first).first) ∙ ap (λ o. unless n.state k.held o (sent_call n.state (wanted c.args.port c.args.a.dest c.args.a.dport c.args.a.prio c.args.a.len c.args.seed) k.held t.number)) c.in-Ok.ensures.refused in
    ap (λ m. Said.Token m) c.in-Ok.ensures.number ∙ sym (ap (λ x. x.said) made)

pub returns-in-Ok-clause-node : goal.returns-in-Ok-clause-node
returns-in-Ok-clause-node c =
    let n = c.args.node.now in
    let k = c.args.client.now in
    let t = c.in-Some.token in
    let first = sym c.take_send.ensures.token ∙ c.in-Some.is in
    let made = (sending-some n.host n.hosts n.state (wanted c.args.port c.args.a.dest c.args.a.dport c.args.a.prio c.args.a.len c.args.seed) k t.number c.requires.tied (taken-is k.host k.port k.held.sends t first).first) ∙ ap (λ o. unless n.state k.held o (sent_call n.state (wanted c.args.port c.args.a.dest c.args.a.dport c.args.a.prio c.args.a.len c.args.seed) k.held t.number)) c.in-Ok.ensures.refused in
    c.in-Ok.ensures.sent ∙ ap (in_state n) (accepted-is n.state c.args.port t.number c.args.a c.args.seed (client_bytes c.args.a.len c.args.seed) refl)
    ∙ ap (λ x. in_state n x.node) (sym made)

pub returns-in-Ok-clause-client : goal.returns-in-Ok-clause-client
returns-in-Ok-clause-client c =
    let n = c.args.node.now in
    let k = c.args.client.now in
    let t = c.in-Some.token in
    let first = sym c.take_send.ensures.token ∙ c.in-Some.is in
    let made = (sending-some n.host n.hosts n.state (wanted c.args.port c.args.a.dest c.args.a.dport c.args.a.prio c.args.a.len c.args.seed) k t.number c.requires.tied (taken-is k.host k.port k.held.sends t first).first) ∙ ap (λ o. unless n.state k.held o (sent_call n.state (wanted c.args.port c.args.a.dest c.args.a.dport c.args.a.prio c.args.a.len c.args.seed) k.held t.number)) c.in-Ok.ensures.refused in
    ap (λ x. Some x) c.take_send.ensures.rest ∙ ap (λ x. now_holding (Some k) x.client) (sym made)

pub returns-in-Err-clause-said : goal.returns-in-Err-clause-said
returns-in-Err-clause-said c =
    let n = c.args.node.now in
    let k = c.args.client.now in
    let t = c.in-Some.token in
    let first = sym c.take_send.ensures.token ∙ c.in-Some.is in
    let made = sending-some n.host n.hosts n.state (wanted c.args.port c.args.a.dest c.args.a.dport c.args.a.prio c.args.a.len c.args.seed) k t.number c.requires.tied (taken-is k.host k.port k.held.sends t first).first in
    told-said c.in-Err.cause (send_refusal c.args.node.now.state (wanted c.args.port c.args.a.dest c.args.a.dport c.args.a.prio c.args.a.len c.args.seed)) n k (sent_call n.state (wanted c.args.port c.args.a.dest c.args.a.dport c.args.a.prio c.args.a.len c.args.seed) k.held t.number) _ c.refused.result c.refused.ensures.told made c.in-Err.ensures.refused

pub returns-in-Err-clause-node : goal.returns-in-Err-clause-node
returns-in-Err-clause-node c =
    let n = c.args.node.now in
    let k = c.args.client.now in
    let t = c.in-Some.token in
    let first = sym c.take_send.ensures.token ∙ c.in-Some.is in
    let made = sending-some n.host n.hosts n.state (wanted c.args.port c.args.a.dest c.args.a.dport c.args.a.prio c.args.a.len c.args.seed) k t.number c.requires.tied (taken-is k.host k.port k.held.sends t first).first in
    told-node c.in-Err.cause (send_refusal c.args.node.now.state (wanted c.args.port c.args.a.dest c.args.a.dport c.args.a.prio c.args.a.len c.args.seed)) n k (sent_call n.state (wanted c.args.port c.args.a.dest c.args.a.dport c.args.a.prio c.args.a.len c.args.seed) k.held t.number) _ c.refused.result c.send_token.new.node c.refused.ensures.told made c.in-Err.ensures.refused c.in-Err.ensures.unchanged

pub returns-in-Err-clause-client : goal.returns-in-Err-clause-client
returns-in-Err-clause-client c =
    let n = c.args.node.now in
    let k = c.args.client.now in
    let t = c.in-Some.token in
    let first = sym c.take_send.ensures.token ∙ c.in-Some.is in
    let made = sending-some n.host n.hosts n.state (wanted c.args.port c.args.a.dest c.args.a.dport c.args.a.prio c.args.a.len c.args.seed) k t.number c.requires.tied (taken-is k.host k.port k.held.sends t first).first in
    told-client c.in-Err.cause (send_refusal c.args.node.now.state (wanted c.args.port c.args.a.dest c.args.a.dport c.args.a.prio c.args.a.len c.args.seed)) n k (sent_call n.state (wanted c.args.port c.args.a.dest c.args.a.dport c.args.a.prio c.args.a.len c.args.seed) k.held t.number) _ c.refused.result c.return_send.new.self c.refused.ensures.told made c.in-Err.ensures.refused
    (returned-send k c.take_send.new.self c.return_send.new.self t c.in-Err.token first c.in-Err.ensures.handed_back c.take_send.ensures.rest c.return_send.ensures)

pub returns-in-Err-clause-wanting : goal.returns-in-Err-clause-wanting
returns-in-Err-clause-wanting c =
    let n = c.args.node.now in
    let k = c.args.client.now in
    let t = c.in-Some.token in
    let first = sym c.take_send.ensures.token ∙ c.in-Some.is in
    let w = wanted c.args.port c.args.a.dest c.args.a.dport c.args.a.prio c.args.a.len c.args.seed in
    told-wanting c.refused.result c.in-Err.cause (send_refusal n.state w) n.state k.held (sent_call n.state w k.held t.number) _ c.refused.ensures.wanting
    (sending-some n.host n.hosts n.state w k t.number c.requires.tied (taken-is k.host k.port k.held.sends t first).first) c.in-Err.ensures.refused refl

pub returns-in-None-clause-said : goal.returns-in-None-clause-said
returns-in-None-clause-said c =
    let n = c.args.node.now in
    let k = c.args.client.now in
    sym (ap (λ x. x.said) (sending-none n.host n.hosts n.state (wanted c.args.port c.args.a.dest c.args.a.dport c.args.a.prio c.args.a.len c.args.seed) k c.requires.tied (none-taken k.host k.port k.held.sends (sym c.take_send.ensures.token ∙ c.in-None.is))))

pub returns-in-None-clause-node : goal.returns-in-None-clause-node
returns-in-None-clause-node c =
    let n = c.args.node.now in
    let k = c.args.client.now in
    ap (λ x. in_state n x.node) (sym (sending-none n.host n.hosts n.state (wanted c.args.port c.args.a.dest c.args.a.dport c.args.a.prio c.args.a.len c.args.seed) k c.requires.tied (none-taken k.host k.port k.held.sends (sym c.take_send.ensures.token ∙ c.in-None.is))))

pub returns-in-None-clause-client : goal.returns-in-None-clause-client
returns-in-None-clause-client c =
    let n = c.args.node.now in
    let k = c.args.client.now in
    let e = none-taken k.host k.port k.held.sends (sym c.take_send.ensures.token ∙ c.in-None.is) in
    ap (λ x. Some x) (c.take_send.ensures.rest ∙ none-left-sends k e) ∙ ap (λ x. now_holding (Some k) x.client) (sym (sending-none n.host n.hosts n.state (wanted c.args.port c.args.a.dest c.args.a.dport c.args.a.prio c.args.a.len c.args.seed) k c.requires.tied e))
