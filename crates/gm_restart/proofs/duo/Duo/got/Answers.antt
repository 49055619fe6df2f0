use Rattle.std.proofs.Common.{subst}
use Rattle.duo_defs.specs.Theorem.{IsReached}
use Rattle.duo_laws.proofs.Order.{got-prefix}
use Rattle.gm_restart.proofs.duo.Duo.got.Goals as goal

pub returns-then-x-eq0-clause-prefix : goal.returns-then-x-eq0-clause-prefix
returns-then-x-eq0-clause-prefix c = got-prefix c.args.self.now (subst IsReached c.self.view_is c.self.invariant) c.args.x c.args.i c.args.j

pub returns-else-x-eq0-clause-prefix : goal.returns-else-x-eq0-clause-prefix
returns-else-x-eq0-clause-prefix c = got-prefix c.args.self.now (subst IsReached c.self.view_is c.self.invariant) c.args.x c.args.i c.args.j
