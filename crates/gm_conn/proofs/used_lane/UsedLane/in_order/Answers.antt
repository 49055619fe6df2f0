use Rattle.std.proofs.Common.{subst}
use Rattle.gm_conn.specs.Lane.{AreNumbered}
use Rattle.gm_conn.proofs.used_lane.UsedLane.in_order.Goals as goal

pub returns : goal.returns
returns c = subst (λ p. AreNumbered p.state) c.self.view_is (record { sender = c.in_order.ensures.sender; numbered = c.self.invariant.numbered })
