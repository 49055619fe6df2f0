use Rattle.gm_conn.proofs.Stepping.{pair-in_order}
use Rattle.gm_conn.proofs.pair.Pair.taken.Goals as goal

pub returns-clause-in_order : goal.returns-clause-in_order
returns-clause-in_order c = pair-in_order _ _ _ _ _ _ c.self.view_is c.self.invariant
