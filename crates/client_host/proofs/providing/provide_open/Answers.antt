use Rattle.std.proofs.Common.{◌∙◌, Some, refl, sym, ap}
use Rattle.world_defs.specs.declared.effect.Said.{Said}
use Rattle.nic_node.specs.Held.{in_state}
use Rattle.client_host.specs.Telling.{size_cause}
use Rattle.client_host.specs.Tied.{now_holding}
use Rattle.port_client.proofs.Tokens.{taken-is, none-taken}
use Rattle.client_host.proofs.Tokens.{free-recv}
use Rattle.client_host.proofs.Returns.{returned-recv}
use Rattle.client_host.proofs.Calling.{unless, provided_call, providing-none, providing-some, none-left-recvs, told-said, told-node, told-client, told-wanting}
use Rattle.client_host.proofs.providing.provide_open.Goals as goal

pub provide_token-requires-clause-free : goal.provide_token-requires-clause-free
provide_token-requires-clause-free c =
    free-recv c.args.node.now.host c.args.node.now.hosts c.args.port _ c.args.client.now c.in-Some.token c.requires.tied (sym c.take_recv.ensures.token ∙ c.in-Some.is)

pub returns-in-Ok-clause-said : goal.returns-in-Ok-clause-said
returns-in-Ok-clause-said c =
    let n = c.args.node.now in
    let k = c.args.client.now in
    let t = c.in-Some.token in
    let first = sym c.take_recv.ensures.token ∙ c.in-Some.is in
    let made = (providing-some n.host n.hosts n.state c.args.port c.args.size c.args.prio k t.number c.requires.tied (taken-is k.host k.port k.held.recvs t first).first) ∙ ap (λ o. unless n.state k.held o (provided_call n.state c.args.port c.args.size c.args.prio k.held t.number)) c.in-Ok.ensures.refused in
    ap (λ m. Said.Token m) c.in-Ok.ensures.number ∙ sym (ap (λ x. x.said) made)

pub returns-in-Ok-clause-node : goal.returns-in-Ok-clause-node
returns-in-Ok-clause-node c =
    let n = c.args.node.now in
    let k = c.args.client.now in
    let t = c.in-Some.token in
    let first = sym c.take_recv.ensures.token ∙ c.in-Some.is in
    let made = (providing-some n.host n.hosts n.state c.args.port c.args.size c.args.prio k t.number c.requires.tied (taken-is k.host k.port k.held.recvs t first).first) ∙ ap (λ o. unless n.state k.held o (provided_call n.state c.args.port c.args.size c.args.prio k.held t.number)) c.in-Ok.ensures.refused in
    c.in-Ok.ensures.provided ∙ ap (λ x. in_state n x.node) (sym made)

pub returns-in-Ok-clause-client : goal.returns-in-Ok-clause-client
returns-in-Ok-clause-client c =
    let n = c.args.node.now in
    let k = c.args.client.now in
    let t = c.in-Some.token in
    let first = sym c.take_recv.ensures.token ∙ c.in-Some.is in
    let made = (providing-some n.host n.hosts n.state c.args.port c.args.size c.args.prio k t.number c.requires.tied (taken-is k.host k.port k.held.recvs t first).first) ∙ ap (λ o. unless n.state k.held o (provided_call n.state c.args.port c.args.size c.args.prio k.held t.number)) c.in-Ok.ensures.refused in
    ap (λ x. Some x) c.take_recv.ensures.rest ∙ ap (λ x. now_holding (Some k) x.client) (sym made)

pub returns-in-Err-clause-said : goal.returns-in-Err-clause-said
returns-in-Err-clause-said c =
    let n = c.args.node.now in
    let k = c.args.client.now in
    let t = c.in-Some.token in
    let first = sym c.take_recv.ensures.token ∙ c.in-Some.is in
    let made = providing-some n.host n.hosts n.state c.args.port c.args.size c.args.prio k t.number c.requires.tied (taken-is k.host k.port k.held.recvs t first).first in
    told-said c.in-Err.cause (size_cause c.args.size c.args.prio) n k (provided_call n.state c.args.port c.args.size c.args.prio k.held t.number) _ c.refused.result c.refused.ensures.told made c.in-Err.ensures.refused

pub returns-in-Err-clause-node : goal.returns-in-Err-clause-node
returns-in-Err-clause-node c =
    let n = c.args.node.now in
    let k = c.args.client.now in
    let t = c.in-Some.token in
    let first = sym c.take_recv.ensures.token ∙ c.in-Some.is in
    let made = providing-some n.host n.hosts n.state c.args.port c.args.size c.args.prio k t.number c.requires.tied (taken-is k.host k.port k.held.recvs t first).first in
    told-node c.in-Err.cause (size_cause c.args.size c.args.prio) n k (provided_call n.state c.args.port c.args.size c.args.prio k.held t.number) _ c.refused.result c.provide_token.new.node c.refused.ensures.told made c.in-Err.ensures.refused c.in-Err.ensures.unchanged

pub returns-in-Err-clause-client : goal.returns-in-Err-clause-client
returns-in-Err-clause-client c =
    let n = c.args.node.now in
    let k = c.args.client.now in
    let t = c.in-Some.token in
    let first = sym c.take_recv.ensures.token ∙ c.in-Some.is in
    let made = providing-some n.host n.hosts n.state c.args.port c.args.size c.args.prio k t.number c.requires.tied (taken-is k.host k.port k.held.recvs t first).first in
    told-client c.in-Err.cause (size_cause c.args.size c.args.prio) n k (provided_call n.state c.args.port c.args.size c.args.prio k.held t.number) _ c.refused.result c.return_recv.new.self c.refused.ensures.told made c.in-Err.ensures.refused
    (returned-recv k c.take_recv.new.self c.return_recv.new.self t c.in-Err.token first c.in-Err.ensures.handed_back c.take_recv.ensures.rest c.return_recv.ensures)

pub returns-in-Err-clause-wanting : goal.returns-in-Err-clause-wanting
returns-in-Err-clause-wanting c =
    let n = c.args.node.now in
    let k = c.args.client.now in
    let t = c.in-Some.token in
    let first = sym c.take_recv.ensures.token ∙ c.in-Some.is in
    told-wanting c.refused.result c.in-Err.cause (size_cause c.args.size c.args.prio) n.state k.held (provided_call n.state c.args.port c.args.size c.args.prio k.held t.number) _ c.refused.ensures.wanting
    (providing-some n.host n.hosts n.state c.args.port c.args.size c.args.prio k t.number c.requires.tied (taken-is k.host k.port k.held.recvs t first).first) c.in-Err.ensures.refused refl

pub returns-in-None-clause-said : goal.returns-in-None-clause-said
returns-in-None-clause-said c =
    let n = c.args.node.now in
    let k = c.args.client.now in
    sym (ap (λ x. x.said) (providing-none n.host n.hosts n.state c.args.port c.args.size c.args.prio k c.requires.tied (none-taken k.host k.port k.held.recvs (sym c.take_recv.ensures.token ∙ c.in-None.is))))

pub returns-in-None-clause-node : goal.returns-in-None-clause-node
returns-in-None-clause-node c =
    let n = c.args.node.now in
    let k = c.args.client.now in
    ap (λ x. in_state n x.node) (sym (providing-none n.host n.hosts n.state c.args.port c.args.size c.args.prio k c.requires.tied (none-taken k.host k.port k.held.recvs (sym c.take_recv.ensures.token ∙ c.in-None.is))))

pub returns-in-None-clause-client : goal.returns-in-None-clause-client
returns-in-None-clause-client c =
    let n = c.args.node.now in
    let k = c.args.client.now in
    let e = none-taken k.host k.port k.held.recvs (sym c.take_recv.ensures.token ∙ c.in-None.is) in
    ap (λ x. Some x) (c.take_recv.ensures.rest ∙ none-left-recvs k e) ∙ ap (λ x. now_holding (Some k) x.client) (sym (providing-none n.host n.hosts n.state c.args.port c.args.size c.args.prio k c.requires.tied e))
