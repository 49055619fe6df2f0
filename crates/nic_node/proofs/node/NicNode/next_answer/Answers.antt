use Rattle.std.proofs.Common.{◌≡◌, ◌∙◌, true, length, sym, ap, subst}
use Rattle.std.specs.Prelude.{is_some}
use Rattle.world_defs.specs.Node.{NodeState, lane_route, owed_on}
use Rattle.gm_conn.specs.Lanes.{IsNext, owes_on}
use Rattle.nic_node.specs.Held.{HostNode, state_of}
use Rattle.nic_node.proofs.Choosing.{goes-there, goes-nowhere, next-within}
use Rattle.nic_node.proofs.Going.{not-owed, owed-there}
use Rattle.nic_node.proofs.node.NicNode.next_answer.Goals as goal

pub returns-then-leads-clause-first : goal.returns-then-leads-clause-first
returns-then-leads-clause-first c =
    let n : NodeState = state_of c.self.inside.items c.self.inside.table c.self.inside.lanes c.self.inside.ports in
    let p = c.self.inside.lanes in
    let w : HostNode = record { host = c.self.inside.host; hosts = p.hosts; state = n } in
    let owes = (next-within (owes_on p) c.loop-owed.from (length p.lanes) c.in-Some.owed c.in-Some.ensures).2 in
    let route : is_some (lane_route n c.in-Some.owed) ≡ true =
    ap (λ (x : HostNode). is_some (lane_route x.state c.in-Some.owed)) c.self.view_is ∙ sym c.leads.ensures ∙ c.if-leads.true in
    (goes-there (λ x. owed_on x.state) w c.args.self.now (owes_on p) c.loop-owed.from c.in-Some.owed c.self.view_is (not-owed n) c.loop-owed.invariant c.in-Some.ensures
    (owed-there n c.in-Some.owed owes route)).0

pub returns-clause-first : goal.returns-clause-first
returns-clause-first c =
    let n : NodeState = state_of c.self.inside.items c.self.inside.table c.self.inside.lanes c.self.inside.ports in
    let p = c.self.inside.lanes in
    let w : HostNode = record { host = c.self.inside.host; hosts = p.hosts; state = n } in
    goes-nowhere (λ x. owed_on x.state) w c.args.self.now (owes_on p) c.loop-owed.from c.self.view_is (not-owed n) c.loop-owed.invariant
    (subst (IsNext (owes_on p) c.loop-owed.from (length p.lanes)) c.in_default.is c.next_owing.ensures)
