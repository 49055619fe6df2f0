use Rattle.std.proofs.Common.{◌≡◌, ◌∙◌, true, length, sym, ap, subst}
use Rattle.std.specs.Prelude.{is_some}
use Rattle.world_defs.specs.Node.{NodeState, lane_route, due_on}
use Rattle.gm_conn.specs.Lanes.{IsNext, has_due}
use Rattle.nic_node.specs.Held.{HostNode, state_of}
use Rattle.nic_node.proofs.Choosing.{goes-there, goes-nowhere, next-within}
use Rattle.nic_node.proofs.Going.{not-due, due-there}
use Rattle.nic_node.proofs.node.NicNode.next_fragment.Goals as goal

pub returns-then-leads-clause-first : goal.returns-then-leads-clause-first
returns-then-leads-clause-first c =
    let n : NodeState = state_of c.self.inside.items c.self.inside.table c.self.inside.lanes c.self.inside.ports in
    let p = c.self.inside.lanes in
    let w : HostNode = record { host = p.host; hosts = p.hosts; state = n } in
    let is : w ≡ c.args.self.now = (λ i. record { host = c.self.invariant.own_lanes i; hosts = p.hosts; state = n }) ∙ c.self.view_is in
    let due = (next-within (has_due p) c.loop-due.from (length p.lanes) c.in-Some.due c.in-Some.ensures).2 in
    let route : is_some (lane_route n c.in-Some.due) ≡ true =
    ap (λ (x : HostNode). is_some (lane_route x.state c.in-Some.due)) c.self.view_is ∙ sym c.leads.ensures ∙ c.if-leads.true in
    (goes-there (λ x. due_on x.host x.state) w c.args.self.now (has_due p) c.loop-due.from c.in-Some.due is (not-due p.host n) c.loop-due.invariant c.in-Some.ensures
    (due-there p.host n c.in-Some.due due route)).0

pub returns-clause-first : goal.returns-clause-first
returns-clause-first c =
    let n : NodeState = state_of c.self.inside.items c.self.inside.table c.self.inside.lanes c.self.inside.ports in
    let p = c.self.inside.lanes in
    let w : HostNode = record { host = p.host; hosts = p.hosts; state = n } in
    let is : w ≡ c.args.self.now = (λ i. record { host = c.self.invariant.own_lanes i; hosts = p.hosts; state = n }) ∙ c.self.view_is in
    goes-nowhere (λ x. due_on x.host x.state) w c.args.self.now (has_due p) c.loop-due.from is (not-due p.host n) c.loop-due.invariant
    (subst (IsNext (has_due p) c.loop-due.from (length p.lanes)) c.in_default.is c.next_due.ensures)
