use Rattle.std.proofs.Common.{sym, ◌∙◌}
use Rattle.world_drain.proofs.GivingUp.{give_up-idle}
use Rattle.world_drain.proofs.giving_up.give_up_staged.Goals as goal

pub returns-else-has_staged-clause-after : goal.returns-else-has_staged-clause-after
returns-else-has_staged-clause-after c = give_up-idle c.args.w.now c.args.host (sym c.has_staged.ensures ∙ c.if-has_staged.false)
