use Rattle.std.proofs.Common.{◌∙◌, sym, ap, subst}
use Rattle.world_defs.specs.Client.{polled_by}
use Rattle.client_host.specs.Tied.{held_of}
use Rattle.client_host.proofs.Ties.{CallTied, polled_by-tied, polled_by-sender}
use Rattle.client_host.proofs.Served.{tied-at, called-served, called-is, sender-is}
use Rattle.client_host.proofs.host.ClientHost.poll.Goals as goal

pub invariant_of-self : goal.invariant_of-self
invariant_of-self c =
    let n = c.self.inside.node in
    let x = c.index_mut-slot.result.now in
    let tied = tied-at n c.self.inside.clients.items c.args.port c.from.result x c.self.invariant c.requires c.from.ensures c.index_mut-slot.ensures.value in
    called-served n c.poll.new.node c.self.inside.clients.items c.args.port c.from.result c.poll.new.slot (polled_by n.state c.args.port (held_of x)) c.self.invariant c.requires c.from.ensures c.poll.ensures.node
    (subst (CallTied n.host n.hosts n.state c.args.port (polled_by n.state c.args.port (held_of x))) (sym c.poll.ensures.client) (polled_by-tied n.host n.hosts n.state c.args.port x tied))

pub returns-clause-after : goal.returns-clause-after
returns-clause-after c =
    let n = c.self.inside.node in
    let x = c.index_mut-slot.result.now in
    let tied = tied-at n c.self.inside.clients.items c.args.port c.from.result x c.self.invariant c.requires c.from.ensures c.index_mut-slot.ensures.value in
    called-is (λ s h. polled_by s c.args.port h) c.args.self.now n c.poll.new.node c.self.inside.clients.items c.args.port c.from.result x c.poll.new.slot
    c.self.view_is c.self.invariant c.requires c.from.ensures c.index_mut-slot.ensures.value c.poll.ensures.node
    (ap held_of c.poll.ensures.client ∙ (polled_by-tied n.host n.hosts n.state c.args.port x tied).held)

pub returns-clause-sender : goal.returns-clause-sender
returns-clause-sender c =
    let n = c.self.inside.node in
    let x = c.index_mut-slot.result.now in
    let tied = tied-at n c.self.inside.clients.items c.args.port c.from.result x c.self.invariant c.requires c.from.ensures c.index_mut-slot.ensures.value in
    sender-is c.args.self.now n c.self.inside.clients.items c.poll.result (polled_by n.state c.args.port (held_of x)).said c.self.view_is c.poll.ensures.said (polled_by-sender n.host n.hosts n.state c.args.port x tied)
