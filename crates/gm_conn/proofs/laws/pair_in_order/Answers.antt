use Rattle.gm_conn.proofs.Pairs.{pair-in_order}
use Rattle.gm_conn.proofs.laws.pair_in_order.Goals as goal

pub returns : goal.returns
returns c = pair-in_order
