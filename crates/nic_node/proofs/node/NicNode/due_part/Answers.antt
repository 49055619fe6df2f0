use Rattle.std.proofs.Common.{◌≤◌, ◌+◌, ℕ, List, length, take, drop, Some, sym, ap, ◌∙◌, subst, arith}
use Rattle.nic_node.proofs.Due.{due-part, head-port, there-some, buffer-is}
use Rattle.nic_node.proofs.node.NicNode.due_part.Goals as goal

pub sending-buffer-requires-clause-port : goal.sending-buffer-requires-clause-port
sending-buffer-requires-clause-port c =
    let d = due-part c.args.self.now c.self.inside.host c.self.inside.items c.self.inside.table c.self.inside.lanes c.self.inside.ports c.args.lane c.args.frame.now.head c.args.frame.now.ticket
    c.self.view_is c.self.invariant c.in_order.ensures.numbers c.requires.head c.requires.ticket in
    let low = head-port c.args.frame.now.head c.requires.by_rules in
    let port = d.port in
    let same = c.port.ensures in
    omega (arith, low, port, same)

pub sending-buffer-requires-clause-unfinished : goal.sending-buffer-requires-clause-unfinished
sending-buffer-requires-clause-unfinished c =
    let d = due-part c.args.self.now c.self.inside.host c.self.inside.items c.self.inside.table c.self.inside.lanes c.self.inside.ports c.args.lane c.args.frame.now.head c.args.frame.now.ticket
    c.self.view_is c.self.invariant c.in_order.ensures.numbers c.requires.head c.requires.ticket in
    there-some c.self.inside.ports c.args.frame.now.ticket c.port.result c.token.result d.send c.port.ensures c.token.ensures d.there

pub part_at-requires : goal.part_at-requires
part_at-requires c =
    let d = due-part c.args.self.now c.self.inside.host c.self.inside.items c.self.inside.table c.self.inside.lanes c.self.inside.ports c.args.lane c.args.frame.now.head c.args.frame.now.ticket
    c.self.view_is c.self.invariant c.in_order.ensures.numbers c.requires.head c.requires.ticket in
    let same = buffer-is c.self.inside.ports c.args.frame.now.ticket c.port.result c.token.result d.send c.sending-buffer.result.now c.port.ensures c.token.ensures d.there c.sending-buffer.ensures in
    subst (λ (b : List ℕ). c.args.frame.now.head.offset + c.args.frame.now.head.len ≤ length b) same d.inside

pub returns-clause-exact : goal.returns-clause-exact
returns-clause-exact c =
    let d = due-part c.args.self.now c.self.inside.host c.self.inside.items c.self.inside.table c.self.inside.lanes c.self.inside.ports c.args.lane c.args.frame.now.head c.args.frame.now.ticket
    c.self.view_is c.self.invariant c.in_order.ensures.numbers c.requires.head c.requires.ticket in
    let same = buffer-is c.self.inside.ports c.args.frame.now.ticket c.port.result c.token.result d.send c.sending-buffer.result.now c.port.ensures c.token.ensures d.there c.sending-buffer.ensures in
    d.frame ∙ ap (λ (b : List ℕ). Some (c.args.frame.now.head, take c.args.frame.now.head.len (drop c.args.frame.now.head.offset b))) same ∙ ap (λ (b : List ℕ). Some (c.args.frame.now.head, b)) (sym c.part_at.ensures)

pub returns-clause-length : goal.returns-clause-length
returns-clause-length c =
    let d = due-part c.args.self.now c.self.inside.host c.self.inside.items c.self.inside.table c.self.inside.lanes c.self.inside.ports c.args.lane c.args.frame.now.head c.args.frame.now.ticket
    c.self.view_is c.self.invariant c.in_order.ensures.numbers c.requires.head c.requires.ticket in
    let same = buffer-is c.self.inside.ports c.args.frame.now.ticket c.port.result c.token.result d.send c.sending-buffer.result.now c.port.ensures c.token.ensures d.there c.sending-buffer.ensures in
    ap length c.part_at.ensures ∙ ap (λ (b : List ℕ). length (take c.args.frame.now.head.len (drop c.args.frame.now.head.offset b))) (sym same) ∙ d.long
