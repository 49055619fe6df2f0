use Rattle.gm_conn.proofs.Stepping.{expire-done, expire-kept}
use Rattle.gm_conn.proofs.pair.Pair.expire.Goals as goal

pub invariant_of-self : goal.invariant_of-self
invariant_of-self c = expire-kept _ _ _ _ _ _ c.self.invariant c.expire.ensures.new

pub returns : goal.returns
returns c = expire-done _ _ _ _ _ _ _ _ c.self.view_is c.self.invariant c.expire.ensures.new c.expire.ensures.answer
