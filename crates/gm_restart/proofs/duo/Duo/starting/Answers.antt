use Rattle.std.proofs.Common.{sym, subst}
use Rattle.duo_defs.specs.Theorem.{IsReached}
use Rattle.duo_laws.proofs.Reaching.{reached-new}
use Rattle.gm_restart.proofs.duo.Duo.starting.Goals as goal

pub invariant_of-result : goal.invariant_of-result
invariant_of-result c = subst IsReached (sym c.in_ok-ends.ensures) (reached-new c.args.inc c.requires)
