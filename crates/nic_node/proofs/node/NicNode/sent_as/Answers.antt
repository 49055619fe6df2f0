use Rattle.std.proofs.Common.{◌≡◌, ◌∙◌, true, sym, ap}
use Rattle.std.specs.Prelude.{is_some}
use Rattle.world_defs.specs.Lane.{lane_answered, lane_sent_one}
use Rattle.world_defs.specs.Node.{NodeState, lane_at}
use Rattle.nic_node.specs.declared.next.NextSend.TheVariants.{Item, Answer, Fragment}
use Rattle.nic_node.specs.Held.{HostNode, state_of}
use Rattle.nic_node.specs.Sending.{chosen}
use Rattle.nic_node.proofs.After.{sent_of, item-sent, lane-sent}
use Rattle.nic_node.proofs.Going.{answered-as, fragment-as}
use Rattle.nic_node.proofs.Ticketed.{answered-of, sent-of}
use Rattle.nic_node.proofs.node.NicNode.sent_as.Goals as goal

pub returns-in-Item : goal.returns-in-Item
returns-in-Item c =
    let v = c.args.self.now in
    item-sent v c.self.inside.host c.self.inside.items c.sent.new.self c.self.inside.table c.self.inside.lanes c.self.inside.ports c.self.view_is
    (ap (λ x. is_some (chosen v.host v.state x)) (sym c.in-Item.is) ∙ c.requires) c.sent.ensures
    ∙ ap (sent_of v) (sym c.in-Item.is)

pub returns-in-Answer : goal.returns-in-Answer
returns-in-Answer c =
    let v = c.args.self.now in
    let lane = c.in-Answer.lane in
    let n : NodeState = state_of c.self.inside.items c.self.inside.table c.self.inside.lanes c.self.inside.ports in
    let there : is_some (chosen v.host v.state (Answer lane)) ≡ true = ap (λ x. is_some (chosen v.host v.state x)) (sym c.in-Answer.is) ∙ c.requires in
    lane-sent v c.self.inside.host c.self.inside.items c.self.inside.table c.self.inside.lanes c.answered.new.self c.self.inside.ports (Answer lane) lane (lane_answered (lane_at n lane)) c.self.view_is
    (answered-as n lane (ap (λ (x : HostNode). is_some (chosen x.host x.state (Answer lane))) c.self.view_is ∙ there)) c.answered.ensures
    ∙ ap (sent_of v) (sym c.in-Answer.is)

pub returns-in-Fragment : goal.returns-in-Fragment
returns-in-Fragment c =
    let v = c.args.self.now in
    let lane = c.in-Fragment.lane in
    let n : NodeState = state_of c.self.inside.items c.self.inside.table c.self.inside.lanes c.self.inside.ports in
    let there : is_some (chosen v.host v.state (Fragment lane)) ≡ true = ap (λ x. is_some (chosen v.host v.state x)) (sym c.in-Fragment.is) ∙ c.requires in
    lane-sent v c.self.inside.host c.self.inside.items c.self.inside.table c.self.inside.lanes c.sent_one.new.self c.self.inside.ports (Fragment lane) lane (lane_sent_one (lane_at n lane)) c.self.view_is
    (fragment-as c.self.inside.host n lane (ap (λ (x : HostNode). is_some (chosen x.host x.state (Fragment lane))) c.self.view_is ∙ there)) c.sent_one.ensures
    ∙ ap (sent_of v) (sym c.in-Fragment.is)

pub invariant_of-self-in-Answer : goal.invariant_of-self-in-Answer
invariant_of-self-in-Answer c =
    answered-of c.self.inside.host c.self.inside.table c.self.inside.lanes c.answered.new.self c.self.inside.ports c.self.invariant c.in-Answer.lane c.answered.ensures

pub invariant_of-self-in-Fragment : goal.invariant_of-self-in-Fragment
invariant_of-self-in-Fragment c =
    sent-of c.self.inside.host c.self.inside.table c.self.inside.lanes c.sent_one.new.self c.self.inside.ports c.self.invariant c.in-Fragment.lane c.sent_one.ensures
