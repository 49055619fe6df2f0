use Rattle.std.proofs.Common.{◌≡◌, ◌<◌, None, sym, subst}
use Rattle.std.specs.Option.{ForSome}
use Rattle.gm_defs.specs.Token.{place_of_send}
use Rattle.world_defs.specs.Node.{port_at}
use Rattle.nic_node.specs.Held.{HostNode}
use Rattle.nic_node.proofs.Ticketed.{accepted-of}
use Rattle.nic_node.proofs.node.NicNode.send.Goals as goal

pub invariant_of-self : goal.invariant_of-self
invariant_of-self c =
    let p = c.self.inside.ports in
    let l = c.self.inside.lanes in
    accepted-of c.self.inside.host c.self.inside.table l c.send.new.lanes p c.send.new.ports c.self.invariant c.in_order.ensures.numbers c.in_order.ensures.count _ c.send.result c.has_route-route.result c.args.port
    c.args.t.number c.args.a c.args.b
    (subst (λ (v : HostNode). c.args.a.dest < v.hosts) (sym c.self.view_is) c.requires.dest)
    (subst (λ (v : HostNode). ForSome (port_at v.state c.args.port) (λ s. place_of_send s c.args.t.number ≡ None)) (sym c.self.view_is) c.requires.free)
    c.send.ensures.refused c.send.ensures.accepted c.send.ensures.sent c.send.ensures.lanes c.send.ensures.ports
