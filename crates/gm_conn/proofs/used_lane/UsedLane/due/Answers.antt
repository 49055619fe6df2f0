use Rattle.std.proofs.Common.{◌∙◌, sym, ap, option_map}
use Rattle.gm_conn.specs.Lane.{due_frame, head_of_frame, ticket_of}
use Rattle.gm_conn.proofs.OneLane.{due-is, none-is, due-send, small-due}
use Rattle.gm_conn.specs.MessageList.{messages_in}
use Rattle.gm_conn.proofs.used_lane.UsedLane.due.Goals as goal

pub new-requires : goal.new-requires
new-requires c =
    small-due c.self.inside.sender (messages_in c.self.inside.sent) c.in-Some.due
    (due-is c.self.inside.sender (messages_in c.self.inside.sent) c.in-Some.due c.in_order.ensures c.self.invariant.numbered c.self.invariant.waits c.self.invariant.unfinished (sym c.in-Some.is ∙ c.due.ensures.exact))
    c.self.invariant.tokens

pub returns-in-Some-clause-head : goal.returns-in-Some-clause-head
returns-in-Some-clause-head c =
    let d = due-is c.self.inside.sender (messages_in c.self.inside.sent) c.in-Some.due c.in_order.ensures c.self.invariant.numbered c.self.invariant.waits c.self.invariant.unfinished (sym c.in-Some.is ∙ c.due.ensures.exact) in
    sym d.frame ∙ ap (λ p. option_map head_of_frame (due_frame p)) c.self.view_is

pub returns-in-Some-clause-ticket : goal.returns-in-Some-clause-ticket
returns-in-Some-clause-ticket c =
    let d = due-is c.self.inside.sender (messages_in c.self.inside.sent) c.in-Some.due c.in_order.ensures c.self.invariant.numbered c.self.invariant.waits c.self.invariant.unfinished (sym c.in-Some.is ∙ c.due.ensures.exact) in
    ap (λ p. ticket_of p.state c.in-Some.due.head.seq) (sym c.self.view_is) ∙ due-send c.self.inside.sender (messages_in c.self.inside.sent) c.in-Some.due c.new.result d c.new.ensures

pub returns-in-None-clause-head : goal.returns-in-None-clause-head
returns-in-None-clause-head c =
    ap (option_map head_of_frame) (sym (none-is c.self.inside.sender (messages_in c.self.inside.sent) c.in_order.ensures c.self.invariant.numbered c.self.invariant.waits (sym c.in-None.is ∙ c.due.ensures.exact)))
    ∙ ap (λ p. option_map head_of_frame (due_frame p)) c.self.view_is
