use Rattle.std.proofs.Common.{subst}
use Rattle.gm_conn.specs.Halves.{IsOutgoing}
use Rattle.gm_conn.proofs.sender.Sender.in_order.Goals as goal

pub returns : goal.returns
returns c = subst IsOutgoing c.self.view_is c.self.invariant.kept
