use Rattle.world_defs.specs.Client.{begun}
use Rattle.client_host.specs.Tied.{held_of, opened_where}
use Rattle.client_host.proofs.Ties.{begun-tied}
use Rattle.client_host.proofs.Served.{tied-at, call-kept, call-after}
use Rattle.client_host.proofs.host.ClientHost.begin.Goals as goal

pub invariant_of-self : goal.invariant_of-self
invariant_of-self c =
    let n = c.self.inside.node in
    let x = c.index_mut-slot.result.now in
    let tied = tied-at n c.self.inside.clients.items c.args.port c.from.result x c.self.invariant c.requires c.from.ensures c.index_mut-slot.ensures.value in
    call-kept c.begin.result n c.begin.new.node c.self.inside.clients.items c.args.port c.from.result x c.begin.new.slot (opened_where n.host c.args.port c.args.sends c.args.recvs x)
    (begun n.state c.args.port c.args.sends c.args.recvs (held_of x)) c.self.invariant c.requires c.from.ensures c.index_mut-slot.ensures.value
    (begun-tied n.host n.hosts n.state c.args.port c.args.sends c.args.recvs x tied) c.begin.ensures.node c.begin.ensures.client c.begin.ensures.node_stays c.begin.ensures.client_stays

pub returns-clause-after : goal.returns-clause-after
returns-clause-after c =
    let n = c.self.inside.node in
    let x = c.index_mut-slot.result.now in
    let tied = tied-at n c.self.inside.clients.items c.args.port c.from.result x c.self.invariant c.requires c.from.ensures c.index_mut-slot.ensures.value in
    call-after c.begin.result (λ s h. begun s c.args.port c.args.sends c.args.recvs h) c.args.self.now n c.begin.new.node c.self.inside.clients.items c.args.port c.from.result x c.begin.new.slot (opened_where n.host c.args.port c.args.sends c.args.recvs x)
    c.self.view_is c.self.invariant c.requires c.from.ensures c.index_mut-slot.ensures.value
    (begun-tied n.host n.hosts n.state c.args.port c.args.sends c.args.recvs x tied) c.begin.ensures.node c.begin.ensures.client
