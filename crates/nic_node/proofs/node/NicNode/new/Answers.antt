use Rattle.std.proofs.Common.{◌<◌, sym, ap, subst}
use Rattle.gm_conn.specs.Lanes.{HostLanes}
use Rattle.nic_node.proofs.Ticketed.{new-of}
use Rattle.nic_node.proofs.node.NicNode.new.Goals as goal

pub invariant_of-result : goal.invariant_of-result
invariant_of-result c = record {
  own_table = ap (λ t. t.host) c.new-4.ensures;
  own_lanes = ap (λ h. h.host) c.in_ok-lanes.ensures;
  own_ports = ap (λ h. h.host) c.in_ok-ports.ensures;
  among = subst (λ (h : HostLanes). c.args.host < h.hosts) (sym c.in_ok-lanes.ensures) c.requires;
  backed = new-of c.args.host c.args.hosts c.in_ok-lanes.lanes c.in_ok-ports.ports c.in_ok-lanes.ensures c.in_ok-ports.ensures;
}
