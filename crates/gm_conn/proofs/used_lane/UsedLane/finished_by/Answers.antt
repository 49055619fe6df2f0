use Rattle.std.proofs.Common.{◌∙◌, ap}
use Rattle.world_defs.specs.Lane.{finished_by}
use Rattle.gm_conn.proofs.OneLane.{finished-lane}
use Rattle.gm_conn.specs.MessageList.{messages_in}
use Rattle.gm_conn.proofs.used_lane.UsedLane.finished_by.Goals as goal

pub returns : goal.returns
returns c =
    finished-lane c.self.inside.sender (messages_in c.self.inside.sent) c.args.next c.finished_by.result c.in_order.ensures c.self.invariant.waits c.self.invariant.numbered c.finished_by.ensures
    ∙ ap (λ p. finished_by p.state c.args.next) c.self.view_is
