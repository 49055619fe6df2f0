use Rattle.std.proofs.Common.{◌∙◌, sym, ap, subst}
use Rattle.world_defs.specs.Client.{closed}
use Rattle.client_host.specs.Tied.{held_of}
use Rattle.client_host.proofs.Ties.{CallTied, closed-tied}
use Rattle.client_host.proofs.Served.{tied-at, called-served, called-is}
use Rattle.client_host.proofs.host.ClientHost.close.Goals as goal

pub invariant_of-self : goal.invariant_of-self
invariant_of-self c =
    let n = c.self.inside.node in
    let x = c.index_mut-slot.result.now in
    let tied = tied-at n c.self.inside.clients.items c.args.port c.from.result x c.self.invariant c.requires c.from.ensures c.index_mut-slot.ensures.value in
    called-served n c.close.new.node c.self.inside.clients.items c.args.port c.from.result c.close.new.slot (closed n.state c.args.port (held_of x)) c.self.invariant c.requires c.from.ensures c.close.ensures.node
    (subst (CallTied n.host n.hosts n.state c.args.port (closed n.state c.args.port (held_of x))) (sym c.close.ensures.client) (closed-tied n.host n.hosts n.state c.args.port x tied))

pub returns-clause-after : goal.returns-clause-after
returns-clause-after c =
    let n = c.self.inside.node in
    let x = c.index_mut-slot.result.now in
    let tied = tied-at n c.self.inside.clients.items c.args.port c.from.result x c.self.invariant c.requires c.from.ensures c.index_mut-slot.ensures.value in
    called-is (λ s h. closed s c.args.port h) c.args.self.now n c.close.new.node c.self.inside.clients.items c.args.port c.from.result x c.close.new.slot
    c.self.view_is c.self.invariant c.requires c.from.ensures c.index_mut-slot.ensures.value c.close.ensures.node
    (ap held_of c.close.ensures.client ∙ (closed-tied n.host n.hosts n.state c.args.port x tied).held)
