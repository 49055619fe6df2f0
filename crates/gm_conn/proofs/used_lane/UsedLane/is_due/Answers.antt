use Rattle.std.proofs.Common.{◌∙◌, ap, is_some}
use Rattle.gm_conn.specs.Lane.{due_frame}
use Rattle.gm_conn.proofs.OneLane.{due-told}
use Rattle.gm_conn.specs.MessageList.{messages_in}
use Rattle.gm_conn.proofs.used_lane.UsedLane.is_due.Goals as goal

pub returns : goal.returns
returns c =
    c.is_some.ensures ∙ ap is_some c.due.ensures.exact
    ∙ due-told c.self.inside.sender (messages_in c.self.inside.sent) c.in_order.ensures c.self.invariant.numbered c.self.invariant.waits
    ∙ ap (λ p. is_some (due_frame p)) c.self.view_is
