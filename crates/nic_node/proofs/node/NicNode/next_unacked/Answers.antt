use Rattle.std.proofs.Common.{◌≡◌, ◌∙◌, ◌*◌, ℕ, Some, None, length, ap, subst}
use Rattle.world_defs.specs.Node.{NodeState, lane_count, peer_of, unacknowledged_to}
use Rattle.gm_conn.specs.Lanes.{IsNext}
use Rattle.nic_node.specs.Held.{HostNode, state_of}
use Rattle.nic_node.specs.Waiting.{IsNextUnacked}
use Rattle.nic_node.proofs.Waiting.{waits_on, no-peer, next-peer}
use Rattle.nic_node.proofs.node.NicNode.next_unacked.Goals as goal

pub returns-in-Some-clause-found : goal.returns-in-Some-clause-found
returns-in-Some-clause-found c =
    let n : NodeState = state_of c.self.inside.items c.self.inside.table c.self.inside.lanes c.self.inside.ports in
    let least = subst (λ (from : ℕ). IsNext (waits_on n) (2 * from) (length n.lanes) (Some c.in-Some.lane)) c.from.ensures c.in-Some.ensures in
    subst (λ (x : HostNode). IsNextUnacked x.state x.hosts c.args.from (peer_of c.in-Some.lane)) c.self.view_is
    (next-peer n c.self.inside.lanes.hosts c.args.from c.in-Some.lane (c.hosts-hosts.ensures.lanes ∙ ap lane_count c.hosts-hosts.ensures.hosts) least)

pub returns-in-None-clause-none : goal.returns-in-None-clause-none
returns-in-None-clause-none c = λ peer above.
    let n : NodeState = state_of c.self.inside.items c.self.inside.table c.self.inside.lanes c.self.inside.ports in
    let least = subst (λ (from : ℕ). IsNext (waits_on n) (2 * from) (length n.lanes) None) c.from.ensures c.in-None.ensures in
    subst (λ (x : HostNode). unacknowledged_to x.state peer ≡ 0) c.self.view_is (no-peer n c.args.from least peer above)
