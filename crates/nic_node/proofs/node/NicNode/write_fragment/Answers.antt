use Rattle.std.proofs.Common.{◌∙◌, sym, ap}
use Rattle.std.specs.Prelude.{option_map}
use Rattle.std.specs.Option.{option_copied}
use Rattle.world_defs.specs.Node.{NodeState, due_frame, lane_at}
use Rattle.gm_conn.specs.Lane.{HostLane, head_shown, head_of_frame, ticket_of, due_frame as due_of}
use Rattle.nic_node.specs.Held.{HostNode, state_of}
use Rattle.nic_node.proofs.First.{on-ok}
use Rattle.nic_node.proofs.Going.{due-packet}
use Rattle.nic_node.proofs.node.NicNode.write_fragment.Goals as goal

pub due_part-part-requires-clause-head : goal.due_part-part-requires-clause-head
due_part-part-requires-clause-head c =
    let n : NodeState = state_of c.self.inside.items c.self.inside.table c.self.inside.lanes c.self.inside.ports in
    ap (λ (w : HostNode). option_map head_of_frame (due_frame w.host w.state c.args.lane)) (sym c.self.view_is)
    ∙ ap (λ h. option_map head_of_frame (due_frame h n c.args.lane)) (sym c.self.invariant.own_lanes)
    ∙ sym (c.due.ensures.head ∙ ap (λ (p : HostLane). option_map head_of_frame (due_of p)) c.at.ensures) ∙ ap (option_map head_shown) c.in-Some.is

pub due_part-part-requires-clause-ticket : goal.due_part-part-requires-clause-ticket
due_part-part-requires-clause-ticket c =
    ap (λ (w : HostNode). ticket_of (lane_at w.state c.args.lane) c.in-Some.frame.head.seq) (sym c.self.view_is)
    ∙ ap (λ (p : HostLane). ticket_of p.state c.in-Some.frame.head.seq) (sym c.at.ensures) ∙ c.in-Some.ensures.ticket

pub returns : goal.returns
returns c = λ number.
    on-ok c.write_frame.result
    (due-packet c.args.self.now.host number c.args.self.now.state c.args.lane c.in-Some-lane_route.by.now (c.in-Some.frame.head, c.due_part-part.result.now) c.write_frame.new.packet
    c.due_part-part.ensures.exact (sym c.lane_route.ensures ∙ ap option_copied c.in-Some-lane_route.is))
    c.write_frame.ensures
