use Rattle.std.proofs.Common.{◌≡◌, ◌∙◌, ap}
use Rattle.world_defs.specs.Table.{table_route}
use Rattle.world_defs.specs.Node.{peer_of, lane_route}
use Rattle.gm_conn.specs.Lane.{HostLane}
use Rattle.nic_node.specs.Held.{HostNode}
use Rattle.nic_node.proofs.node.NicNode.lane_route.Goals as goal

pub returns : goal.returns
returns c =
    let peer : c.peer.result ≡ peer_of c.args.lane = c.peer.ensures ∙ ap (λ (p : HostLane). p.key.dst) c.at.ensures in
    c.route.ensures ∙ ap (table_route c.self.inside.table.state) peer ∙ ap (λ (w : HostNode). lane_route w.state c.args.lane) c.self.view_is
