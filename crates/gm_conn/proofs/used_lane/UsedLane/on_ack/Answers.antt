use Rattle.std.proofs.Common.{◌≡◌, ◌∙◌, ap, arith}
use Rattle.gm_conn.specs.Halves.{finished}
use Rattle.world_defs.specs.Lane.{finished_by, lane_acknowledged}
use Rattle.gm_conn.specs.Lane.{HostLane, in_state, sends_of}
use Rattle.gm_conn.proofs.OneLane.{finished-lane, heard-lane, heard-state, sends-left}
use Rattle.gm_conn.specs.MessageList.{messages_in}
use Rattle.gm_conn.proofs.used_lane.UsedLane.on_ack.Goals as goal

pub drop_finished-requires : goal.drop_finished-requires
drop_finished-requires c =
    let all = c.on_ack-finished.ensures.messages in
    let none = c.self.invariant.unfinished in
    omega (arith, all, none)

pub invariant_of-self : goal.invariant_of-self
invariant_of-self c =
    let v = c.self.inside.sender in
    let ms = messages_in c.self.inside.sent in
    let messages = c.on_ack-finished.ensures.messages in
    let none = c.self.invariant.unfinished in
    let all : c.on_ack-finished.result ≡ finished c.on_ack-finished.new.self = omega (arith, messages, none) in
    let left = c.drop_finished.ensures in
    heard-lane v c.on_ack-finished.new.self c.drop_finished.new.sender c.self.inside.receiver ms c.args.next c.on_ack-finished.result c.self.invariant c.on_ack-finished.ensures.new all
    (record { key = left.key; numbers = left.numbers; fewer = left.fewer; left = left.left; waits = left.waits })

pub returns : goal.returns
returns c =
    let v = c.self.inside.sender in
    let p : HostLane = record {
      key = v.key;
      state = record {
        sender = v.numbers;
        sent = messages_in c.self.inside.sent;
        pending = sends_of v;
        got = messages_in c.self.inside.got;
        coming = c.self.inside.coming;
        taken = c.self.inside.receiver.taken;
        owes = c.self.inside.owes;
      };
    } in
    let new = c.on_ack-finished.ensures.new in
    let left = c.drop_finished.ensures in
    let is : c.on_ack-finished.result ≡ finished_by p.state c.args.next =
    finished-lane v (messages_in c.self.inside.sent) c.args.next c.on_ack-finished.result c.in_order.ensures c.self.invariant.waits c.self.invariant.numbered
    (c.on_ack-finished.ensures.messages ∙ ap finished new) in
    heard-state p c.drop_finished.new.sender c.args.next c.on_ack-finished.result is (left.key ∙ ap (λ w. w.key) new) (left.numbers ∙ ap (λ w. w.numbers) new)
    (sends-left v c.on_ack-finished.new.self c.drop_finished.new.sender c.on_ack-finished.result (ap (λ w. w.waiting) new) left.fewer)
    ∙ ap (λ q. in_state q (lane_acknowledged q.state c.args.next)) c.self.view_is
