use Rattle.std.proofs.Common.{◌∙◌, ◌++◌, ◌∷◌, []}
use Rattle.gm_defs.specs.declared.frame.GmBody.TheVariants.{Ack as Acknowledges}
use Rattle.gm_conn.proofs.Stepping.{ack-kept}
use Rattle.gm_conn.proofs.pair.Pair.emit_ack.Goals as goal

pub invariant_of-self-2 : goal.invariant_of-self-2
invariant_of-self-2 c = ack-kept _ _ _ _ _ _ c.self.invariant (c.push_reserved.ensures.items ∙ (λ i. c.reserve.ensures.items i ++ Acknowledges (c.ack.ensures i) ∷ []))
