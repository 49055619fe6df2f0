use Rattle.std.proofs.Common.{◌∙◌, Some, sym, ap}
use Rattle.gm_port.specs.Held.{event_of}
use Rattle.nic_node.specs.Held.{in_state}
use Rattle.world_defs.specs.Node.{port_at}
use Rattle.client_host.specs.Tied.{now_holding}
use Rattle.client_host.proofs.Calling.{polling-some, polling-none, event-first, event-none, same-holder, none-polled}
use Rattle.client_host.proofs.polling.poll_open.Goals as goal

pub returns-in-Ok-Some-clause-said : goal.returns-in-Ok-Some-clause-said
returns-in-Ok-Some-clause-said c =
    let n = c.args.node.now in
    let k = c.args.client.now in
    let e = c.in-Ok-Some.event in
    let made = polling-some n.host n.hosts n.state c.args.port k (event_of e) c.requires.tied (event-first n.host c.args.port (port_at n.state c.args.port) c.in-Ok-Some.field-0 e c.in-Ok-Some.field-0-is c.in-Ok-Some.ensures.first) in
    c.take_back.ensures.said ∙ sym (ap (λ x. x.said) made)

pub returns-in-Ok-Some-clause-node : goal.returns-in-Ok-Some-clause-node
returns-in-Ok-Some-clause-node c =
    let n = c.args.node.now in
    let k = c.args.client.now in
    let e = c.in-Ok-Some.event in
    let made = polling-some n.host n.hosts n.state c.args.port k (event_of e) c.requires.tied (event-first n.host c.args.port (port_at n.state c.args.port) c.in-Ok-Some.field-0 e c.in-Ok-Some.field-0-is c.in-Ok-Some.ensures.first) in
    c.poll.ensures.rest ∙ ap (λ x. in_state n x.node) (sym made)

pub returns-in-Ok-Some-clause-client : goal.returns-in-Ok-Some-clause-client
returns-in-Ok-Some-clause-client c =
    let n = c.args.node.now in
    let k = c.args.client.now in
    let e = c.in-Ok-Some.event in
    let made = polling-some n.host n.hosts n.state c.args.port k (event_of e) c.requires.tied (event-first n.host c.args.port (port_at n.state c.args.port) c.in-Ok-Some.field-0 e c.in-Ok-Some.field-0-is c.in-Ok-Some.ensures.first) in
    ap (λ x. Some x) c.take_back.ensures.back ∙ same-holder k (event_of e) ∙ ap (λ x. now_holding (Some k) x.client) (sym made)

pub returns-in-Ok-None-clause-said : goal.returns-in-Ok-None-clause-said
returns-in-Ok-None-clause-said c =
    let n = c.args.node.now in
    let k = c.args.client.now in
    sym (ap (λ x. x.said) (polling-none n.host n.hosts n.state c.args.port k c.requires.tied (event-none n.host c.args.port (port_at n.state c.args.port) c.in-Ok-None.field-0 c.in-Ok-None.field-0-is c.in-Ok-None.ensures.first)))

pub returns-in-Ok-None-clause-node : goal.returns-in-Ok-None-clause-node
returns-in-Ok-None-clause-node c =
    let n = c.args.node.now in
    let k = c.args.client.now in
    let none = event-none n.host c.args.port (port_at n.state c.args.port) c.in-Ok-None.field-0 c.in-Ok-None.field-0-is c.in-Ok-None.ensures.first in
    c.poll.ensures.rest ∙ ap (in_state n) (none-polled n.state c.args.port none) ∙ ap (λ x. in_state n x.node) (sym (polling-none n.host n.hosts n.state c.args.port k c.requires.tied none))

pub returns-in-Ok-None-clause-client : goal.returns-in-Ok-None-clause-client
returns-in-Ok-None-clause-client c =
    let n = c.args.node.now in
    let k = c.args.client.now in
    ap (λ x. now_holding (Some k) x.client) (sym (polling-none n.host n.hosts n.state c.args.port k c.requires.tied (event-none n.host c.args.port (port_at n.state c.args.port) c.in-Ok-None.field-0 c.in-Ok-None.field-0-is c.in-Ok-None.ensures.first)))
