use Rattle.world_defs.specs.Client.{sent_by}
use Rattle.world_defs.specs.Step.{wanted}
use Rattle.client_host.specs.Tied.{held_of, now_holding}
use Rattle.client_host.proofs.Ties.{sent_by-tied}
use Rattle.client_host.proofs.Served.{tied-at, call-kept, call-after}
use Rattle.client_host.proofs.host.ClientHost.send.Goals as goal

pub invariant_of-self : goal.invariant_of-self
invariant_of-self c =
    let n = c.self.inside.node in
    let x = c.index_mut-slot.result.now in
    let tied = tied-at n c.self.inside.clients.items c.args.port c.from.result x c.self.invariant c.requires.port c.from.ensures c.index_mut-slot.ensures.value in
    call-kept c.send.result n c.send.new.node c.self.inside.clients.items c.args.port c.from.result x c.send.new.slot (now_holding x (sent_by n.state (wanted c.args.port c.args.dest c.args.dport c.args.prio c.args.len c.args.seed) (held_of x)).client)
    (sent_by n.state (wanted c.args.port c.args.dest c.args.dport c.args.prio c.args.len c.args.seed) (held_of x)) c.self.invariant c.requires.port c.from.ensures c.index_mut-slot.ensures.value
    (sent_by-tied n.host n.hosts n.state (wanted c.args.port c.args.dest c.args.dport c.args.prio c.args.len c.args.seed) x tied) c.send.ensures.node c.send.ensures.client c.send.ensures.node_stays c.send.ensures.client_stays

pub returns-clause-after : goal.returns-clause-after
returns-clause-after c =
    let n = c.self.inside.node in
    let x = c.index_mut-slot.result.now in
    let tied = tied-at n c.self.inside.clients.items c.args.port c.from.result x c.self.invariant c.requires.port c.from.ensures c.index_mut-slot.ensures.value in
    call-after c.send.result (λ s h. sent_by s (wanted c.args.port c.args.dest c.args.dport c.args.prio c.args.len c.args.seed) h) c.args.self.now n c.send.new.node c.self.inside.clients.items c.args.port c.from.result x c.send.new.slot (now_holding x (sent_by n.state (wanted c.args.port c.args.dest c.args.dport c.args.prio c.args.len c.args.seed) (held_of x)).client)
    c.self.view_is c.self.invariant c.requires.port c.from.ensures c.index_mut-slot.ensures.value
    (sent_by-tied n.host n.hosts n.state (wanted c.args.port c.args.dest c.args.dport c.args.prio c.args.len c.args.seed) x tied) c.send.ensures.node c.send.ensures.client
