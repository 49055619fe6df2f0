use Rattle.world_defs.specs.Client.{provided_by}
use Rattle.client_host.specs.Tied.{held_of, now_holding}
use Rattle.client_host.proofs.Ties.{provided_by-tied}
use Rattle.client_host.proofs.Served.{tied-at, call-kept, call-after}
use Rattle.client_host.proofs.host.ClientHost.provide.Goals as goal

pub invariant_of-self : goal.invariant_of-self
invariant_of-self c =
    let n = c.self.inside.node in
    let x = c.index_mut-slot.result.now in
    let tied = tied-at n c.self.inside.clients.items c.args.port c.from.result x c.self.invariant c.requires c.from.ensures c.index_mut-slot.ensures.value in
    call-kept c.provide.result n c.provide.new.node c.self.inside.clients.items c.args.port c.from.result x c.provide.new.slot (now_holding x (provided_by n.state c.args.port c.args.size c.args.prio (held_of x)).client)
    (provided_by n.state c.args.port c.args.size c.args.prio (held_of x)) c.self.invariant c.requires c.from.ensures c.index_mut-slot.ensures.value
    (provided_by-tied n.host n.hosts n.state c.args.port c.args.size c.args.prio x tied) c.provide.ensures.node c.provide.ensures.client c.provide.ensures.node_stays c.provide.ensures.client_stays

pub returns-clause-after : goal.returns-clause-after
returns-clause-after c =
    let n = c.self.inside.node in
    let x = c.index_mut-slot.result.now in
    let tied = tied-at n c.self.inside.clients.items c.args.port c.from.result x c.self.invariant c.requires c.from.ensures c.index_mut-slot.ensures.value in
    call-after c.provide.result (λ s h. provided_by s c.args.port c.args.size c.args.prio h) c.args.self.now n c.provide.new.node c.self.inside.clients.items c.args.port c.from.result x c.provide.new.slot (now_holding x (provided_by n.state c.args.port c.args.size c.args.prio (held_of x)).client)
    c.self.view_is c.self.invariant c.requires c.from.ensures c.index_mut-slot.ensures.value
    (provided_by-tied n.host n.hosts n.state c.args.port c.args.size c.args.prio x tied) c.provide.ensures.node c.provide.ensures.client
