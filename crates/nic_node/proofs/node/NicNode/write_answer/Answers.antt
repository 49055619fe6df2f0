use Rattle.std.proofs.Common.{◌≡◌, ◌∙◌, sym, ap}
use Rattle.std.specs.Prelude.{option_map}
use Rattle.std.specs.Option.{option_copied}
use Rattle.gm_defs.specs.Body.{is_prio}
use Rattle.gm_defs.specs.Connection.{ack_on}
use Rattle.world_defs.specs.Node.{prio_of, lane_route, packet_for, takes_from, owed_on, lane_at}
use Rattle.gm_conn.specs.Lane.{HostLane, other_way}
use Rattle.nic_node.specs.Held.{HostNode, state_of}
use Rattle.nic_node.proofs.First.{on-ok}
use Rattle.nic_node.proofs.Going.{owes-it, owed-packet, lane-prio}
use Rattle.nic_node.proofs.node.NicNode.write_answer.Goals as goal

pub write_ack-requires : goal.write_ack-requires
write_ack-requires c =
    let prio : c.ack.result.prio ≡ prio_of c.args.lane = ap (λ a. a.prio) c.ack.ensures ∙ ap (λ (p : HostLane). p.key.prio) c.at.ensures in
    ap is_prio prio ∙ lane-prio c.args.lane

pub returns : goal.returns
returns c = λ number.
    let n = state_of c.self.inside.items c.self.inside.table c.self.inside.lanes c.self.inside.ports in
    let ack : c.ack.result ≡ ack_on (takes_from c.self.inside.host c.args.lane) (lane_at n c.args.lane).taken =
    c.ack.ensures ∙ ap (λ (p : HostLane). ack_on (other_way p.key) p.state.taken) c.at.ensures
    ∙ ap (λ h. ack_on (takes_from h c.args.lane) (lane_at n c.args.lane).taken) c.self.invariant.own_lanes in
    let route = ap (λ (w : HostNode). lane_route w.state c.args.lane) c.self.view_is ∙ (sym c.lane_route.ensures ∙ ap option_copied c.in-Some.is) in
    let owes = ap (λ (w : HostNode). (lane_at w.state c.args.lane).owes) c.self.view_is ∙ owes-it c.args.self.now.state c.args.lane c.requires.owes in
    on-ok c.write_ack.result
    (λ is. owed-packet c.self.inside.host number n c.args.lane c.in-Some.by.now c.ack.result c.write_ack.new.packet owes route ack is
    ∙ ap (λ (w : HostNode). option_map (packet_for w.host number) (owed_on w.state c.args.lane)) c.self.view_is)
    c.write_ack.ensures
