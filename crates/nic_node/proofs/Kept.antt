-- A body of messages is heard as the world's host hears it.
use Rattle.std.proofs.Common.{◌≡◌, ℕ, List, length, sym, ap, ◌∙◌, subst}
use Rattle.std.specs.Prelude.{Result, Ok, Err, IfOk, OnErr}
use Rattle.gm_defs.specs.declared.frame.GmBody.{GmBody}
use Rattle.gm_defs.specs.declared.frame.Malformed.{Malformed as NoBody}
use Rattle.world_defs.specs.declared.arrival.Arrival.{Arrival}
use Rattle.world_defs.specs.Node.{NodeState, lane_count, new_node}
use Rattle.world_defs.specs.Hearing.{messages_read, hear_body}
use Rattle.host_items.specs.Held.{HostItems}
use Rattle.route_install.specs.Collecting.{HostTable}
use Rattle.gm_conn.specs.Lane.{AreNumbered}
use Rattle.gm_conn.specs.Lanes.{HostLanes, lane_in}
use Rattle.host_ports.specs.Held.{HostPorts}
use Rattle.ticket_laws.specs.Host.{Begins, IsBacked}
use Rattle.ticket_laws.proofs.Backing.{heard-backed}
use Rattle.nic_node.specs.Messages.{with_messages}
use Rattle.nic_node.specs.Held.{HostNode, state_of}

-- what was heard, within every host of the world with these lanes and ports
abbrev WasHeard : {E : Type 0} → ℕ → HostLanes → HostLanes → HostPorts → HostPorts → List ℕ → Result GmBody NoBody → Result Arrival E → Type 0
WasHeard host p q r s body b result = IfOk result (λ arrival. (n : NodeState) → hear_body host p.hosts (with_messages n p r) (messages_read body b) ≡ (arrival, with_messages n q s))

pub heard-whole : {E : Type 0} (v : HostNode) (host : ℕ) (i : HostItems) (t : HostTable) (p q : HostLanes) (r s : HostPorts) (body : List ℕ) (b : Result GmBody NoBody) (result : Result Arrival E)
    → record { host = host; hosts = p.hosts; state = state_of i t p r } ≡ v → WasHeard host p q r s body b result
    → IfOk result (λ arrival. hear_body v.host v.hosts v.state (messages_read body b) ≡ (arrival, state_of i t q s))
heard-whole v host i t p q r s body b (Ok arrival) is heard = sym (ap (λ w. hear_body w.host w.hosts w.state (messages_read body b)) is) ∙ heard (state_of i t p r)
heard-whole v host i t p q r s body b (Err e) is heard = tt

-- and it leaves a host that is backed so
pub heard-of : {E : Type 0} (host : ℕ) (p q : HostLanes) (r s : HostPorts) (body : List ℕ) (b : Result GmBody NoBody) (result : Result Arrival E) → ((lane : ℕ) → AreNumbered (lane_in p lane)) → length p.lanes ≡ lane_count p.hosts
    → IsBacked Begins r.ports p.lanes → WasHeard host p q r s body b result → OnErr result (q ≡ p) → OnErr result (s ≡ r) → IsBacked Begins s.ports q.lanes
heard-of host p q r s body b (Ok arrival) numbers count is heard lanes ports =
    let n : NodeState = new_node 0 in
    subst (λ (x : Arrival × NodeState). IsBacked Begins x.1.ports x.1.lanes) (heard n) (heard-backed Begins host p.hosts (with_messages n p r) count (λ k. (numbers k).sender) is body b)
heard-of host p q r s body b (Err e) numbers count is heard lanes ports =
    subst (λ (h : HostLanes). IsBacked Begins s.ports h.lanes) (sym lanes) (subst (λ (h : HostPorts). IsBacked Begins h.ports p.lanes) (sym ports) is)
