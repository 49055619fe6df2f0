use Rattle.std.proofs.Common.{◌≡◌, ◌≤◌, ℕ, subst}
use Rattle.std.specs.Prelude.{IfSome, IfNone}
use Rattle.world_defs.specs.Node.{NodeState, unacknowledged_to}
use Rattle.world_defs.specs.World.{WorldState, host_count, node_at}
use Rattle.nic_node.specs.Waiting.{IsNextUnacked}
use Rattle.fab_world.proofs.world.World.next_unacked.Goals as goal

pub returns-clause-found : goal.returns-clause-found
returns-clause-found c =
    let r = c.next_unacked.result in
    let m = c.self.inside.machine in
    subst (λ (w : WorldState). IfSome r (IsNextUnacked (node_at w c.args.host) (host_count w) c.args.from)) c.self.view_is
    (subst (λ (count : ℕ). IfSome r (IsNextUnacked (node_at m c.args.host) count c.args.from)) c.at.ensures.hosts
    (subst (λ (n : NodeState). IfSome r (IsNextUnacked n c.at.result.now.hosts c.args.from)) c.at.ensures.state c.next_unacked.ensures.found))

pub returns-clause-none : goal.returns-clause-none
returns-clause-none c =
    let r = c.next_unacked.result in
    subst (λ (w : WorldState). IfNone r ((peer : ℕ) → c.args.from ≤ peer → unacknowledged_to (node_at w c.args.host) peer ≡ 0)) c.self.view_is
    (subst (λ (n : NodeState). IfNone r ((peer : ℕ) → c.args.from ≤ peer → unacknowledged_to n peer ≡ 0)) c.at.ensures.state c.next_unacked.ensures.none)
